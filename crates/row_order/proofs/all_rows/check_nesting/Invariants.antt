use Rattle.row_order.proofs.Prelude.{HoldBefore, in_place, rules_of_nesting_in}
use Rattle.row_order.proofs.all_rows.check_nesting.Given as goal

abbrev pub invariant-loop-row : goal.invariant-loop-row
invariant-loop-row l = HoldBefore (rules_of_nesting_in (in_place l.source)) 1 l.row
