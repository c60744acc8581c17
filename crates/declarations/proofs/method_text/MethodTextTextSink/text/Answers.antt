use Rattle.declarations.proofs.Prelude.{refl, sym, ◌∙◌, on_taken}
use Rattle.declarations.proofs.method_text.MethodTextTextSink.text.Goals as goal

pub returns-then-is_reached-clause-piece : goal.returns-then-is_reached-clause-piece
returns-then-is_reached-clause-piece g c = (λ taken. absurd cc, λ refused whole. (refl, λ text. c.if-is_reached.ensures refl text))

pub returns-clause-piece : goal.returns-clause-piece
returns-clause-piece g c = (
  λ taken. (c.keep_refusal.ensures.kept taken, refl, refl, refl, λ model shown links params. (c.args.text.now, refl, on_taken c.write_text-written.result (sym c.keep_refusal.ensures.taken ∙ taken) c.write_text-written.ensures)),
  λ refused whole. absurd (c.keep_refusal.ensures.failed refused whole),
)
