use Rattle.std.proofs.Common.{◌≡◌, None, refl, sym, ◌∙◌, subst}
use Rattle.full_names.specs.TextEnd.{IsWhole}
use Rattle.full_names.specs.Texts.{IsPieceText}
use Rattle.full_names.proofs.NameExists.{pieces_text}
use Rattle.full_names.proofs.PlainPieces.{ArePlain, text_is_plain}
use Rattle.full_names.proofs.SinkLemmas.{received}
use Rattle.full_names.proofs.signature_text.put_signature.Goals as goal

pub returns : goal.returns
returns g c = λ model shown named signature encodes none whole.
    received _ g.W.Write.write_str_gives (λ s. s.writer.now) (λ s. (s.ended ≡ None) × (s.source.now ≡ c.args.sink.now.source.now) × (s.writer.ghost_name ≡ c.args.sink.now.writer.ghost_name))
    (λ s. s.writer.ghost_name ≡ c.args.sink.now.writer.ghost_name) (λ s. IsWhole s.ended) (IsPieceText (g.N.WriteNames.is_name model)) ArePlain (λ p ps fit. fit.1)
    (pieces_text (g.N.WriteNames.is_name model) named) (λ s kept. kept.2)
    (λ s p t call kept. let gave = call.0 refl in ((gave.0 ∙ kept.0, gave.1 ∙ kept.1, gave.2 ∙ kept.2), gave.3 model (subst (λ x. g.S.ReadMetadata.shows x model) (sym kept.1) shown)))
    (λ s p t call kept done. let gave = call.1 refl done in (gave.0 ∙ kept.2, gave.1))
    (c.write_encoded.ensures.text signature encodes) (text_is_plain signature) (none, refl, refl) whole
