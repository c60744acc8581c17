use Rattle.signatures.proofs.Prelude.{◌≡◌, ◌-◌, many_at, number_at}
use Rattle.signatures.proofs.Items.{with_head}
use Rattle.signatures.proofs.shape.numbers.Given as goal

abbrev pub invariant-loop-done : goal.invariant-loop-done
invariant-loop-done l = with_head l.all.items (many_at number_at (l.count - l.done) l.tail) ≡ many_at number_at l.count l.bytes
