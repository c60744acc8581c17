use Rattle.sig_recogniser.proofs.Prelude.{◌≡◌, ◌-◌, left, skip_many, skip_number}
use Rattle.sig_recogniser.proofs.shape.after_numbers.Given as goal

abbrev pub invariant-loop-done : goal.invariant-loop-done
invariant-loop-done l = skip_many skip_number (l.count - l.done) (left l.bytes l.here) ≡ skip_many skip_number l.count (left l.bytes l.fn.here)
