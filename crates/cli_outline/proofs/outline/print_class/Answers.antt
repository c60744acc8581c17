use Rattle.cli_outline.proofs.Prelude.{class_rows}
use Rattle.cli_outline.proofs.ChosenLemmas.{chosen_more}
use Rattle.cli_outline.proofs.outline.print_class.Goals as goal

pub returns-clause-lines : goal.returns-clause-lines
unfolding class_rows
returns-clause-lines g c = λ model is.
    chosen_more (c.print_row.ensures model is)
    (chosen_more (c.print_members.ensures.lines model is)
    (chosen_more (c.print_members-2.ensures.lines model is)
    (chosen_more (c.print_mapped.ensures.lines model is) (c.print_mapped-2.ensures.lines model is))))
