use Rattle.tables.proofs.Prelude.{HoldBefore, refusals_of_row, refusals_by_row_at}
use Rattle.tables.proofs.cell_checks.check_cells.Given as goal

abbrev pub invariant-loop-table_index : goal.invariant-loop-table_index
invariant-loop-table_index l = HoldBefore (refusals_by_row_at l.counted (refusals_of_row l.counted)) 0 l.table_index
