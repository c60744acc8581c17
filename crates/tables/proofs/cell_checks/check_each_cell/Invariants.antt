use Rattle.tables.proofs.Prelude.{HoldBefore, refusals_of_cell}
use Rattle.tables.proofs.cell_checks.check_each_cell.Given as goal

abbrev pub invariant-loop-cell_index : goal.invariant-loop-cell_index
invariant-loop-cell_index l = HoldBefore (refusals_of_cell l.counted l.table l.row) 0 l.cell_index
