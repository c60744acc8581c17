use Rattle.clim_c.proofs.attributes.clim_attribute_items.Goals as goal

pub returns-in-None-clause-complete : goal.returns-in-None-clause-complete
returns-in-None-clause-complete c = λ is_open model is v has. absurd (c.in-None.ensures.complete model (rw c.in-Some.ensures.sound.0 is) v has)
