use Rattle.declarations.proofs.methods.write_method_within.Goals as goal

pub returns : goal.returns
returns g c = record { text = λ model shown method is. c.write_method_by.ensures.text model shown tt method is }
