use Rattle.cli_outline.proofs.orders.rows_in_order.Goals as goal

pub returns-in_ok-push_in_order-in-Table-clause-grouped : goal.returns-in_ok-push_in_order-in-Table-clause-grouped
returns-in_ok-push_in_order-in-Table-clause-grouped c = λ model is.
    let out = rw (c.new-order.ensures.items, c.count-past.ensures.model model is) at c.in_ok-push_in_order-in-Table.ensures in rw (← c.in-Table.ensures.grouping, out.1) (out.3 model is)

pub returns-in-Members-clause-grouped : goal.returns-in-Members-clause-grouped
returns-in-Members-clause-grouped c = λ model is. rw (← c.in-Members.ensures.grouping) (c.members_in_order.ensures.grouped model is)
