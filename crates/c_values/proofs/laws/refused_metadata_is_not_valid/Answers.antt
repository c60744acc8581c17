use Rattle.c_values.proofs.OneLemmas.{table_one}
use Rattle.c_values.proofs.RefusedLemmas.{not_valid}
use Rattle.c_values.proofs.laws.refused_metadata_is_not_valid.Goals as goal

pub returns : goal.returns
returns c = λ version user rows refusal model refused given.
    let one = table_one c.tables_stand.ensures.rise c.tables_stand.ensures.stand in
    not_valid one c.valid_models_are_not_refused.ensures.met version user rows refusal model
    (λ other is. c.given_metadata_is_one.ensures version user rows other model is given) refused given
