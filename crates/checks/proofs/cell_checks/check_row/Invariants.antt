use Rattle.checks.proofs.Prelude.{HoldBefore, rules_of_cell}
use Rattle.checks.proofs.cell_checks.check_row.Given as goal

abbrev pub invariant-loop-column : goal.invariant-loop-column
invariant-loop-column l = HoldBefore (rules_of_cell l.source l.table l.row) 0 l.column
