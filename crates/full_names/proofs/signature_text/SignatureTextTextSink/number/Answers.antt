use Rattle.full_names.proofs.Prelude.{refl, sym, ◌∙◌, decimal}
use Rattle.full_names.proofs.PieceLemmas.{on_taken}
use Rattle.full_names.proofs.signature_text.SignatureTextTextSink.number.Goals as goal

pub returns-clause-piece : goal.returns-clause-piece
returns-clause-piece g c = (
  λ taken. (c.keep_refusal.ensures.kept taken, refl, refl, λ model shown. (decimal c.args.number, refl, on_taken c.write_number-written.result (sym c.keep_refusal.ensures.taken ∙ taken) c.write_number-written.ensures)),
  λ refused whole. absurd (c.keep_refusal.ensures.failed refused whole),
)
