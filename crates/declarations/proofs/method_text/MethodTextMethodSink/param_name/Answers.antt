use Rattle.declarations.proofs.Prelude.{refl, sym, ◌∙◌, on_taken}
use Rattle.declarations.proofs.method_text.MethodTextMethodSink.param_name.Goals as goal

pub returns-clause-piece : goal.returns-clause-piece
returns-clause-piece g c = (
  λ taken. (c.keep_refusal.ensures.kept taken, refl, refl, refl, λ model shown links params. on_taken c.write_param-written.result (sym c.keep_refusal.ensures.taken ∙ taken) (c.write_param-written.ensures model shown c.args.self.now.of.first c.args.self.now.of.past params)),
  λ refused whole. absurd (c.keep_refusal.ensures.failed refused whole),
)
