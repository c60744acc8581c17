use Rattle.cli_outline.proofs.Prelude.{◌≡◌, ◌++◌, map, take, row_of_keyed}
use Rattle.cli_outline.proofs.orders.push_in_order.Given as goal

-- the first rows are appended
abbrev pub invariant-loop-item : goal.invariant-loop-item
invariant-loop-item l = l.order.items ≡ l.initial.order.items ++ map row_of_keyed (take l.item-index l.item-items)
