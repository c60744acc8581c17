use Rattle.cli_cells.proofs.cells.print_value.Goals as goal

pub returns-in_default : goal.returns-in_default
returns-in_default g c = λ cell shown. rw (← c.value_of.ensures c.args.kind cell c.in_default.not-Sig shown) c.print_part.ensures
