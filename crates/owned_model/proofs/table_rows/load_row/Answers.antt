use Rattle.owned_model.proofs.Prelude.{◌≤◌, ◌<◌, length, ap, ◌∙◌, arith, take_all, all_said, row_of, row_count}
use Rattle.metadata.specs.Cell.{Number}
use Rattle.owned_model.proofs.PaddingLemmas.{next_cell}
use Rattle.owned_model.proofs.table_rows.load_row.Goals as goal

pub loop-column-preserved : goal.loop-column-preserved
unfolding row_count
loop-column-preserved c = λ model is.
    let row = row_of model c.args.table c.args.row in
    let long = c.models_are_read.ensures.long c.args.view.now model is c.args.table c.args.row c.requires.first c.requires.last in
    let below : c.loop-column.column < length row = omega (arith, long) in
    ap all_said c.in_ok-push.ensures.items
    ∙ next_cell c.loop-column.cells.items c.in_ok-cell.cell row c.loop-column.column (Number 0) below (c.loop-column.invariant model is) (c.in_ok-cell.ensures model is)

pub returns : goal.returns
unfolding row_count
returns c = λ model is.
    let row = row_of model c.args.table c.args.row in
    let long = c.models_are_read.ensures.long c.args.view.now model is c.args.table c.args.row c.requires.first c.requires.last in
    let past : length row ≤ c.loop-column.column = omega (arith, long) in
    c.loop-column.invariant model is ∙ take_all c.loop-column.column row past
