use Rattle.tables.proofs.Prelude.{◌≡◌, ◌↔◌, length, Result, Ok, Err, IsOk, AllHold, Reports, none_fails, Refusal, Metadata, IsValid, refusals_of}
use Rattle.tables.proofs.whole.check_tables.Goals as goal

module _ (met : (model : Metadata) → IsValid model → AllHold (refusals_of model)) (found : (model : Metadata) → length model.tables ≡ 38
    → AllHold (refusals_of model) → IsValid model) where
  valid_where : {X : Type 0} (model : Metadata) (result : Result X Refusal) → length model.tables ≡ 38 → Reports (refusals_of model) result
      → IsOk result ↔ IsValid model
  valid_where model (Ok x) long all = (λ _. found model long all, λ _. search)
  valid_where model (Err refusal) long fails = (λ ok. absurd cc, λ valid. absurd (none_fails (refusals_of model) refusal (met model valid) fails))

pub returns-clause-valid : goal.returns-clause-valid
returns-clause-valid c =
    valid_where c.valid_models_are_not_refused.ensures.met c.valid_models_are_not_refused.ensures.sound c.args.tables.now c.check_rules.result
    c.check_rules.ensures.tables c.check_rules.ensures.reports
