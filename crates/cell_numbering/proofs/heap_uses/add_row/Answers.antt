use Rattle.cell_numbering.proofs.Prelude.{◌<◌, ◌≤◌, length, take, ◌++◌, arith, Number, row_of, HasRow}
use Rattle.cell_numbering.proofs.UseLemmas.{next_cell_in, all_cells_in, no_cells_yet}
use Rattle.cell_numbering.proofs.heap_uses.add_row.Goals as goal

pub loop-cell_index-init : goal.loop-cell_index-init
loop-cell_index-init g c = λ model is cells are. no_cells_yet _ model _ cells are

pub loop-cell_index-preserved : goal.loop-cell_index-preserved
loop-cell_index-preserved g c = λ model is cells are.
    let row = row_of model c.args.table c.args.row in
    let there : HasRow model c.args.table c.args.row = (c.requires.first, omega (arith, c.holds_one.ensures.rows model is c.args.table, c.requires.last)) in
    let long = (c.holds_one.ensures.valid model is).long c.args.table c.args.row there in
    let i = c.loop-cell_index.cell_index in
    let below : i < length row = omega (arith, long) in
    next_cell_in _ model _ cells row i (Number 0) below (c.in_ok-add_cell.ensures model is (cells ++ take i row) (c.loop-cell_index.invariant model is cells are))

pub returns : goal.returns
returns g c = λ model is cells are.
    let row = row_of model c.args.table c.args.row in
    let there : HasRow model c.args.table c.args.row = (c.requires.first, omega (arith, c.holds_one.ensures.rows model is c.args.table, c.requires.last)) in
    let long = (c.holds_one.ensures.valid model is).long c.args.table c.args.row there in
    let past : length row ≤ c.loop-cell_index.cell_index = omega (arith, long) in
    all_cells_in _ model _ cells row c.loop-cell_index.cell_index past (c.loop-cell_index.invariant model is cells are)
