use Rattle.std.proofs.Common.{refl, sym, ◌∙◌}
use Rattle.full_names.proofs.PieceLemmas.{on_taken}
use Rattle.full_names.proofs.signature_text.SignatureTextTextSink.name.Goals as goal

pub returns-clause-piece : goal.returns-clause-piece
returns-clause-piece g c = (
  λ taken. (c.keep.ensures.kept taken, refl, refl, λ model shown. on_taken c.write_token-written.result (sym c.keep.ensures.taken ∙ taken) (c.write_token-written.ensures model shown)),
  λ refused whole. absurd (c.keep.ensures.failed refused whole),
)
