use Rattle.visible_rows.proofs.Prelude.{◌∙◌, ap, described}
use Rattle.visible_rows.proofs.declaring.described_last.Goals as goal

pub returns-clause-value : goal.returns-clause-value
returns-clause-value c = λ model is.
    let first = c.described-subject.ensures.value model is in
    let second = c.described-outer.ensures.value model is ∙ ap (described model) first in
    c.described.ensures.value model is ∙ ap (described model) second
