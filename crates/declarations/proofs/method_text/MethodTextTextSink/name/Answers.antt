use Rattle.declarations.proofs.Prelude.{refl, sym, ◌∙◌, on_taken}
use Rattle.declarations.proofs.method_text.MethodTextTextSink.name.Goals as goal

pub returns-clause-piece : goal.returns-clause-piece
returns-clause-piece g c = (
  λ taken. (c.keep.ensures.kept taken, refl, refl, refl, λ model shown links params. on_taken c.write_full_name_within-written.result (sym c.keep.ensures.taken ∙ taken) (c.write_full_name_within-written.ensures.name model shown)),
  λ refused whole. absurd (c.keep.ensures.failed refused whole),
)
