use Rattle.cli_contents.proofs.lines.print_row.Goals as goal

pub returns : goal.returns
returns g c = λ model is.
    rw (← c.shape-table.ensures.word, ← c.shape-table.ensures.table, ← c.shape-table.ensures.name) (rw (← c.text_or_empty-name.ensures model is) c.print_content.ensures)
