use Rattle.cli_outline.proofs.Prelude.{Module, all_rows, order_in}
use Rattle.cli_outline.proofs.ChosenLemmas.{item_printed, items_printed}
use Rattle.cli_outline.proofs.chosen.print_chosen.Goals as goal

pub loop-table-preserved : goal.loop-table-preserved
loop-table-preserved g c = λ model is.
    item_printed (all_rows (order_in c.args.source.now.orders.items) model) c.args.tables.now c.loop-table.table-index Module c.loop-table-test.true (c.loop-table.invariant model is) (rw (c.count-past.ensures.model model is) at (c.print_positions.ensures model is))

pub returns : goal.returns
returns g c = λ model is. items_printed (all_rows (order_in c.args.source.now.orders.items) model) c.args.tables.now c.loop-table.table-index c.loop-table-test.false (c.loop-table.invariant model is)
