use Rattle.std.proofs.Common.{rules, arith, ◌/◌, ◌≤◌}
use Rattle.sig_text.proofs.Chains.{and_then, shut, silent}
use Rattle.sig_text.proofs.MarksShown.{halves, zero_text}
use Rattle.sig_text.proofs.marks.+marks.Goals as goal

pub returns-then-not-taken : goal.returns-then-not-taken
returns-then-not-taken g t c = shut _ (search rules)

pub returns-in-0 : goal.returns-in-0
returns-in-0 g t c = rw (zero_text c.args.count c.args.bytes.now c.in-0.is) silent

pub returns-in_default : goal.returns-in_default
returns-in_default g t c = let le : c.args.count / 2 ≤ c.args.count = omega arith in rw (halves c.args.count (c.args.count / 2) c.args.bytes.now le, ← c.first_marks.ensures.tail) (and_then c.marks.ensures c.marks-in_default.ensures)
