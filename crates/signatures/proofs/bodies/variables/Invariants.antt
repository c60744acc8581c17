use Rattle.signatures.proofs.Prelude.{◌≡◌, ◌-◌, map, many_at, core_at, local_at, local_of}
use Rattle.signatures.proofs.Items.{with_head}
use Rattle.signatures.proofs.bodies.variables.Given as goal

abbrev pub invariant-loop-done : goal.invariant-loop-done
invariant-loop-done l =
    with_head (map local_of l.all.items) (many_at (local_at (core_at l.depth)) (l.count - l.done) l.tail) ≡ many_at (local_at (core_at l.depth)) l.count l.bytes
