use Rattle.owned_model.proofs.Prelude.{length, ap, arith, length-map, row_of, said}
use Rattle.tables.proofs.CellCheckLemmas.{item_said}
use Rattle.owned_model.proofs.valid_model.Model.cell.Goals as goal

pub bounds-cells-cell_index : goal.bounds-cells-cell_index
bounds-cells-cell_index c =
    omega (arith, c.requires.cell_index, c.tables-tables.ensures.valid.long c.args.table c.args.row (c.requires.first, c.requires.last), ap length c.cells.ensures, length-map c.cells.result.now said)

pub returns : goal.returns
returns c =
    let within = c.tables-tables.ensures.valid.long c.args.table c.args.row (c.requires.first, c.requires.last) in
    item_said c.cells.result.now (row_of c.args.self.now c.args.table c.args.row) c.args.cell_index c.index-cells-cell_index.result c.cells.ensures
    (omega (arith, c.requires.cell_index, within, ap length c.cells.ensures, length-map c.cells.result.now said)) c.index-cells-cell_index.is
