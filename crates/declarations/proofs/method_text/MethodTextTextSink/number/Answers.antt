use Rattle.declarations.proofs.Prelude.{refl, sym, ◌∙◌, decimal, on_taken}
use Rattle.declarations.proofs.method_text.MethodTextTextSink.number.Goals as goal

pub returns-clause-piece : goal.returns-clause-piece
returns-clause-piece g c = (
  λ taken. (c.keep_refusal.ensures.kept taken, refl, refl, refl, λ model shown links params. (decimal c.args.number, refl, on_taken c.write_number-written.result (sym c.keep_refusal.ensures.taken ∙ taken) c.write_number-written.ensures)),
  λ refused whole. absurd (c.keep_refusal.ensures.failed refused whole),
)
