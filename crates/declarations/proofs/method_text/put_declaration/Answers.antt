use Rattle.declarations.proofs.Prelude.{◌≡◌, None, refl, ◌∙◌, ⊤, IsDeclaredPiece, generic_rows}
use Rattle.full_names.specs.TextEnd.{IsWhole}
use Rattle.full_names.proofs.SinkLemmas.{received}
use Rattle.declarations.proofs.ParamExists.{declared_texts}
use Rattle.declarations.proofs.method_text.put_declaration.Goals as goal

pub returns : goal.returns
returns g c = λ model shown links signature declares params text named none whole.
    let sink = c.args.sink.now in
    let of = sink.of in
    let generics = generic_rows sink.params.now.links in
    let valid = c.holds_one.ensures.valid model shown in
    received _ g.W.Write.write_str_gives (λ s. s.writer.now)
    (λ s. (s.ended ≡ None) × (s.params.now ≡ sink.params.now) × (s.of ≡ of) × (s.writer.ghost_name ≡ sink.writer.ghost_name))
    (λ s. s.writer.ghost_name ≡ sink.writer.ghost_name) (λ s. IsWhole s.ended) (IsDeclaredPiece g.L.Limit.scopes model of.class of.name.now of.first of.past generics)
    (λ ps. ⊤) (λ p ps fit. tt) (λ ps fit. declared_texts g.L.Limit.scopes model valid of.class (text, named) of.name.now of.first of.past generics ps) (λ s kept. kept.3)
    (λ s p t call kept. let gave = call.0 refl in
    ((gave.0 ∙ kept.0, gave.1 ∙ kept.1, gave.2 ∙ kept.2, gave.3 ∙ kept.3), (rw (kept.1, kept.2) at (gave.4 model)) shown links params))
    (λ s p t call kept done. let gave = call.1 refl done in (gave.0 ∙ kept.3, gave.1))
    (c.write_declaration.ensures.text signature declares) tt (none, refl, refl, refl) whole
