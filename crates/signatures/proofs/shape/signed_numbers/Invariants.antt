use Rattle.signatures.proofs.Prelude.{◌≡◌, ◌-◌, many_at, signed_at}
use Rattle.signatures.proofs.Items.{with_head}
use Rattle.signatures.proofs.shape.signed_numbers.Given as goal

abbrev pub invariant-loop-done : goal.invariant-loop-done
invariant-loop-done l = with_head l.all.items (many_at signed_at (l.count - l.done) l.tail) ≡ many_at signed_at l.count l.bytes
