use Rattle.tables.proofs.Prelude.{HoldBefore, refusals_of_signature}
use Rattle.tables.proofs.signature_checks.check_row.Given as goal

abbrev pub invariant-loop-cell_index : goal.invariant-loop-cell_index
invariant-loop-cell_index l = HoldBefore (refusals_of_signature l.counted l.table l.row) 0 l.cell_index
