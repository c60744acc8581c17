use Rattle.tables.proofs.Prelude.{HoldBefore, refusals_of_signatures_in, refusals_by_row_at}
use Rattle.tables.proofs.signature_checks.check_signatures.Given as goal

abbrev pub invariant-loop-table_index : goal.invariant-loop-table_index
invariant-loop-table_index l = HoldBefore (refusals_by_row_at l.counted (refusals_of_signatures_in l.counted)) 0 l.table_index
