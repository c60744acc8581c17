use Rattle.declarations.proofs.Prelude.{◌∙◌, List, ℕ, Some, None, ap, option_map, marshal_by, marshalled, marshal_text}
use Rattle.declarations.proofs.params.Params.descriptor.Goals as goal

pub returns-in_err-param : goal.returns-in_err-param
returns-in_err-param g c = λ model shown first past are space.
    (None, c.in_err-param.ensures.row model shown first past are, ap (λ o. marshalled space (option_map (λ blob. blob.now) o)) c.from_residual.ensures)

pub returns-in_err-row : goal.returns-in_err-row
returns-in_err-row g c = λ model shown first past are space. (
  Some c.in_ok-param.param,
  c.in_ok-param.ensures.row model shown first past are,
  ap (λ o. marshalled space (option_map (λ blob. blob.now) o)) c.from_residual-in_err-row.ensures ∙ ap (marshal_by space model) (c.in_err-row.ensures.row model shown),
)

pub returns : goal.returns
returns g c = λ model shown first past are space. (
  Some c.in_ok-param.param,
  c.in_ok-param.ensures.row model shown first past are,
  ap (λ (blob : List ℕ). space (marshal_text blob)) (c.blob.ensures model shown) ∙ ap (marshal_by space model) (c.in_ok-row.ensures.row model shown),
)
