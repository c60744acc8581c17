use Rattle.row_order.proofs.Prelude.{HoldBefore, rules_of_order_at}
use Rattle.row_order.proofs.order.check_order.Given as goal

abbrev pub invariant-loop-table_index : goal.invariant-loop-table_index
invariant-loop-table_index l = HoldBefore (rules_of_order_at l.source) 0 l.table_index
