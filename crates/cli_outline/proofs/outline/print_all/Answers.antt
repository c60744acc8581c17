use Rattle.cli_outline.proofs.Prelude.{outline_rows, first_tables, last_tables}
use Rattle.cli_outline.proofs.ChosenLemmas.{all_printed, chosen_more}
use Rattle.cli_outline.proofs.outline.print_all.Goals as goal

pub returns : goal.returns
unfolding outline_rows first_tables last_tables
returns g c = λ model is. all_printed (chosen_more (c.print_chosen.ensures model is) (chosen_more (c.print_classes.ensures model is) (c.print_chosen-2.ensures model is)))
