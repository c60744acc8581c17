use Rattle.cli_outline.proofs.Prelude.{IsModel}
use Rattle.cli_outline.proofs.SubjectLemmas.{chosen_meant}
use Rattle.cli_outline.proofs.outline.print_refs_of.Goals as goal

pub returns-then-not-finds-clause-printed : goal.returns-then-not-finds-clause-printed
returns-then-not-finds-clause-printed g c = λ model is some.
    let yes = (c.finds.ensures model is).1 (some.0, some.1, (c.in-Ok.ensures model some.0).1 some.2) in
    let no = c.if-not-finds.true in
    absurd cc

pub returns-clause-printed : goal.returns-clause-printed
returns-clause-printed g c = λ model is.
    let of : IsModel c.in-Ok-new.source.neighbours.view.now model = rw c.in-Ok-new.ensures.view is in
    let wants = c.in-Ok.ensures model in
    let types = c.in-Ok.types in
    let some = (c.finds.ensures model is).0 c.if-not-finds.false in
    let found = rw c.in-Ok-new.ensures.orders at (c.print_chosen.ensures model of) in (
      (some.0, some.1, (wants some.0).0 some.2),
      (found.found, chosen_meant model c.args.subject types wants _ found.found found.chosen, rw c.in-Ok-new.ensures.options at found.printed),
    )
