use Rattle.declarations.proofs.Prelude.{refl, sym, ◌∙◌, on_taken, leading_words, words_of}
use Rattle.type_heads.specs.declared.flag_words.FlagTable.TheVariants as table
use Rattle.declarations.proofs.method_text.MethodTextMethodSink.param_flags.Goals as goal

pub returns-clause-piece : goal.returns-clause-piece
returns-clause-piece g c = (
  λ taken. (c.keep_refusal.ensures.kept taken, refl, refl, refl, λ model shown links params. (leading_words c.flags.result (words_of table.Param), c.flags.ensures model shown c.args.self.now.of.first c.args.self.now.of.past params, on_taken c.write_flags-written.result (sym c.keep_refusal.ensures.taken ∙ taken) c.write_flags-written.ensures)),
  λ refused whole. absurd (c.keep_refusal.ensures.failed refused whole),
)
