use Rattle.cli_cells.proofs.until_fault.MetRowsShownRows.count.Goals as goal

pub returns : goal.returns
returns c = λ content is. rw (is, ← c.self.view_is) c.count.ensures.value
