use Rattle.std.proofs.Common.{Some, None, refl}
use Rattle.declarations.proofs.params.Params.name.Goals as goal

pub returns-in-Some : goal.returns-in-Some
returns-in-Some g c = λ model shown first past are. (Some c.in-Some.row, c.in-Some.ensures.row model shown first past are, (c.text.result.now, c.text.ensures model shown, refl))

pub returns-in-None : goal.returns-in-None
returns-in-None g c = λ model shown first past are. (None, c.in-None.ensures.row model shown first past are, refl)
