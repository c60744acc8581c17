use Rattle.clim_c.proofs.opened.clim_open.Goals as goal

pub returns-in-Err-clause-complete : goal.returns-in-Err-clause-complete
returns-in-Err-clause-complete c = λ header model is. absurd (c.in-Err.ensures.complete header model is)
