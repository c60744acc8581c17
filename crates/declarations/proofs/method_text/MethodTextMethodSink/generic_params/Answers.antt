use Rattle.declarations.proofs.Prelude.{refl, sym, ◌∙◌, on_taken}
use Rattle.declarations.proofs.method_text.MethodTextMethodSink.generic_params.Goals as goal

pub returns-clause-piece : goal.returns-clause-piece
returns-clause-piece g c = (
  λ taken. (c.keep.ensures.kept taken, refl, refl, refl, λ model shown links params. on_taken c.write_generics-written.result (sym c.keep.ensures.taken ∙ taken) (c.write_generics-written.ensures model links)),
  λ refused whole. absurd (c.keep.ensures.failed refused whole),
)
