use Rattle.cli_found.proofs.values.print_meaning.Goals as goal

pub returns-in-Some : goal.returns-in-Some
returns-in-Some g c = λ model is. rw (c.in-Cell.is, ← c.flags_at.ensures, c.in-Some.is) (rw c.column_number.ensures at c.print_flags.ensures)

pub returns-in-None : goal.returns-in-None
returns-in-None g c = λ model is. rw (c.in-Cell.is, ← c.flags_at.ensures, c.in-None.is) (c.add_reference.ensures model is)
