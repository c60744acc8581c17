use Rattle.visible_rows.proofs.Prelude.{◌∙◌, ap, sym, row_in, is_visible_method, Cell}
use Rattle.visible_rows.proofs.members.is_visible_accessor.Goals as goal

pub returns : goal.returns
returns c = λ model is. c.is_visible_method.ensures model is ∙ ap (λ (method : Cell). is_visible_method model (row_in method)) (sym (c.target-method.ensures.value model is))
