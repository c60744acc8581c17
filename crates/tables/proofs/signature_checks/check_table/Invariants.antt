use Rattle.tables.proofs.Prelude.{HoldBefore, refusals_of_signatures_in}
use Rattle.tables.proofs.signature_checks.check_table.Given as goal

abbrev pub invariant-loop-row : goal.invariant-loop-row
invariant-loop-row l = HoldBefore (refusals_of_signatures_in l.counted l.table) 1 l.row
