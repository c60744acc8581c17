use Rattle.cli_cells.proofs.shown_rows.CellCursorShownRows.count.Goals as goal

pub returns : goal.returns
returns c = λ content is. rw is.2 (c.count.ensures.model is.0 (rw c.view.ensures.view is.1))
