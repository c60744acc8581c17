use Rattle.tables.proofs.Prelude.{HoldBefore, refusals_of_row}
use Rattle.tables.proofs.cell_checks.check_rows.Given as goal

abbrev pub invariant-loop-row : goal.invariant-loop-row
invariant-loop-row l = HoldBefore (refusals_of_row l.counted l.table) 1 l.row
