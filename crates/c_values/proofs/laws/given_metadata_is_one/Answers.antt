use Rattle.c_values.proofs.OneLemmas.{model_one}
use Rattle.c_values.proofs.laws.given_metadata_is_one.Goals as goal

pub returns : goal.returns
returns c = model_one c.tables_stand.ensures.rise c.tables_stand.ensures.stand c.signatures_are_read.ensures.one c.models_of_same_parts_are_one.ensures
