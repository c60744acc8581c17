use Rattle.cli_outline.proofs.Prelude.{[], inl, inr, refl, IsModel, order_in, last_tables}
use Rattle.cli_outline.proofs.ChosenLemmas.{all_printed}
use Rattle.cli_outline.proofs.PrintedLemmas.{rows_more}
use Rattle.cli_outline.proofs.outline.print_type.Goals as goal

pub returns-in-Ok : goal.returns-in-Ok
unfolding last_tables
returns-in-Ok g c = λ model is.
    let of : IsModel c.in-Ok.source.neighbours.view.now model = rw c.in-Ok.ensures.view is in
    let found = c.print_chosen.ensures model of in
    inl (
      _,
      (order_in c.in-Ok.source.orders.items, c.in-Ok.ensures.order model is, found.found, found.chosen, refl),
      rw c.in-Ok.ensures.options at (rows_more c.in-Ok.source.options model _ _ _ _ _ (all_printed (c.print_class.ensures.lines model of)) found.printed),
    )

pub returns-in-Err : goal.returns-in-Err
returns-in-Err g c = λ model is. inr (c.fail.ensures.stopped, c.fail.ensures.lines [])
