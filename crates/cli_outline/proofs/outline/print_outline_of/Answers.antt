use Rattle.cli_outline.proofs.Prelude.{◌∷◌, [], ◌∙◌, ⊎_elim, inl, inr, refl, sym, IsModel}
use Rattle.cli_outline.proofs.ChosenLemmas.{all_printed}
use Rattle.cli_outline.proofs.SubjectLemmas.{one_subject}
use Rattle.cli_outline.proofs.outline.print_outline_of.Goals as goal

pub returns-in-TypeDef-clause-printed : goal.returns-in-TypeDef-clause-printed
returns-in-TypeDef-clause-printed g c = λ model is.
    let of = c.in-Ok-Some.token in (
      of,
      rw c.in-Ok-Some.field-0-is at (c.in-Ok-Some.ensures.sound model is),
      rw c.in-TypeDef.is refl,
      ⊎_elim (λ out. inl (out.0, inl (c.in-TypeDef.is, out.1), out.2)) inr (c.print_type.ensures model is),
    )

pub returns-then-not-declares-clause-printed : goal.returns-then-not-declares-clause-printed
returns-then-not-declares-clause-printed g c = λ model is other also.
    rw (one_subject model c.args.subject c.in-Ok-Some.token other (rw c.in-Ok-Some.field-0-is at (c.in-Ok-Some.ensures.sound model is)) c.in_default.not-TypeDef also)
    (sym (c.declares.ensures model (rw c.in-Ok.ensures.view is)) ∙ c.if-not-declares.true)

pub returns-clause-printed : goal.returns-clause-printed
returns-clause-printed g c = λ model is.
    let of = c.in-Ok-Some.token in
    let here : IsModel c.in-Ok.source.neighbours.view.now model = rw c.in-Ok.ensures.view is in (
      of,
      rw c.in-Ok-Some.field-0-is at (c.in-Ok-Some.ensures.sound model is),
      sym (c.declares.ensures model here) ∙ c.if-not-declares.false,
      inl (of ∷ [], inr (c.in_default.not-TypeDef, refl), rw c.in-Ok.ensures.options at (all_printed (c.print_row.ensures model here))),
    )
