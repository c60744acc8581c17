use Rattle.sig_text.proofs.Prelude.{◌≡◌, ◌-◌, numbers_behind}
use Rattle.sig_text.proofs.shape.behind_numbers.Given as goal

abbrev pub invariant-loop-done : goal.invariant-loop-done
invariant-loop-done l = numbers_behind (l.count - l.done) l.tail ≡ numbers_behind l.count l.bytes
