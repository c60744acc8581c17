use Rattle.clim_c.proofs.Prelude.{◌∙◌, same_Some}
use Rattle.clim_c.proofs.embedded.clim_embed.Goals as goal

pub returns-in-Ok-clause-copy : goal.returns-in-Ok-clause-copy
returns-in-Ok-clause-copy c = λ name is few. rw (← same_Some c.in-Some.strong_name name (c.in-Some.ensures ∙ is)) c.in-Ok.ensures.sound
