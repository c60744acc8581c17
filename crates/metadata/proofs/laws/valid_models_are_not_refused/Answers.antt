use Rattle.metadata.proofs.RefusalLemmas.{valid_found, valid_met}
use Rattle.metadata.proofs.laws.valid_models_are_not_refused.Goals as goal

pub returns : goal.returns
returns c = record { met = valid_met; sound = valid_found }
