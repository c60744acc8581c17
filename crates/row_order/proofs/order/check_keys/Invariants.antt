use Rattle.row_order.proofs.Prelude.{HoldBefore, rules_of_key_in}
use Rattle.row_order.proofs.order.check_keys.Given as goal

abbrev pub invariant-loop-row : goal.invariant-loop-row
invariant-loop-row l = HoldBefore (rules_of_key_in l.source l.table l.key) 2 l.row
