use Rattle.std.proofs.lemmas.Grind.{not_there}
use Rattle.metadata.specs.Metadata.{cell_in}
use Rattle.cli_cells.proofs.shown_rows.CellCursorShownRows.cell.Goals as goal

pub returns-clause-some : goal.returns-clause-some
returns-clause-some c = λ none.
    not_there c.view-view.ensures.model (λ some. none (cell_in some.0 c.args.table c.args.row c.args.cell_index, c.cell.ensures.cell some.0 some.1))

pub returns-clause-cell : goal.returns-clause-cell
returns-clause-cell c = λ content is. rw is.2 (c.cell.ensures.cell is.0 is.1)
