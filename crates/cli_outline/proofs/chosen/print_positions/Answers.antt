use Rattle.cli_outline.proofs.Prelude.{order_in, own_rows}
use Rattle.cli_outline.proofs.ChosenLemmas.{position_printed, positions_printed}
use Rattle.cli_outline.proofs.chosen.print_positions.Goals as goal

pub loop-position-preserved : goal.loop-position-preserved
loop-position-preserved g c = λ model is.
    position_printed (own_rows model c.args.table) (order_in c.args.source.now.orders.items c.args.table) c.loop-position.position c.args.positions.«end» c.loop-position-test.true (c.loop-position.invariant model is) (rw c.row_at-row.ensures.row at (c.print_own.ensures model is))

pub returns : goal.returns
returns g c = λ model is. positions_printed (own_rows model c.args.table) (order_in c.args.source.now.orders.items c.args.table) c.loop-position.position c.args.positions.«end» c.loop-position-test.false (c.loop-position.invariant model is)
