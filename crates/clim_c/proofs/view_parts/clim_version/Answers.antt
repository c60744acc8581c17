use Rattle.clim_c.proofs.view_parts.clim_version.Goals as goal

pub returns-in-Some-clause-open : goal.returns-in-Some-clause-open
returns-in-Some-clause-open c = λ is_open model is. let version = (rw c.in-Some.ensures.sound.0 at c.version.ensures) model is in cc
