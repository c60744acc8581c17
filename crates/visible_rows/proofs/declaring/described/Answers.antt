use Rattle.visible_rows.proofs.Prelude.{◌∙◌, ap, sym, or_itself}
use Rattle.visible_rows.proofs.declaring.described.Goals as goal

pub returns-in-Some-clause-value : goal.returns-in-Some-clause-value
returns-in-Some-clause-value c = λ model is. ap (or_itself c.args.of) (sym c.in-Some.is ∙ c.subject_of.ensures.value model is)

pub returns-in-None-clause-value : goal.returns-in-None-clause-value
returns-in-None-clause-value c = λ model is. ap (or_itself c.args.of) (sym c.in-None.is ∙ c.subject_of.ensures.value model is)
