use Rattle.checks.proofs.Prelude.{HoldBefore, rules_of_row}
use Rattle.checks.proofs.cell_checks.broken_from.Given as goal

abbrev pub invariant-loop-row : goal.invariant-loop-row
invariant-loop-row l = HoldBefore (rules_of_row l.source l.table) 1 l.row
