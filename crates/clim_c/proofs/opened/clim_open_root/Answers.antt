use Rattle.clim_c.proofs.opened.clim_open_root.Goals as goal

pub returns-in-Err-clause-complete : goal.returns-in-Err-clause-complete
returns-in-Err-clause-complete c = λ model is. let opened = c.in-Err.ensures.complete model is in absurd cc
