use Rattle.full_names.proofs.NameExists.{any_name}
use Rattle.declarations.proofs.signature_text.write_signature_text.Goals as goal

pub returns : goal.returns
returns g c = λ model shown. c.write_signature.ensures model shown (any_name model (c.holds_one.ensures.valid model shown) g.L.Limit.scopes)
