use Rattle.sig_text.proofs.Prelude.{◌≡◌, marks_in}
use Rattle.sig_text.proofs.marks.first_marks.Given as goal

abbrev pub invariant-loop-count : goal.invariant-loop-count
invariant-loop-count l = l.tail ≡ (marks_in l.count l.bytes).1
