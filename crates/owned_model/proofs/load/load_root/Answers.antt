use Rattle.owned_model.proofs.Prelude.{List, ℕ, sym, subst, not_there, IsModel, rules_of_metadata, HasModel}
use Rattle.owned_model.proofs.Refusing.{fault_refused}
use Rattle.owned_model.proofs.load.load_root.Goals as goal

pub returns-in_err-view-clause-refused : goal.returns-in_err-view-clause-refused
returns-in_err-view-clause-refused c =
    fault_refused c.from_residual.result (rules_of_metadata 0 c.args.root.now) (HasModel c.args.root.now) c.in_err-view.field-0.0
    c.from_residual.ensures.1 c.in_err-view.ensures.first_error
    (λ fits. not_there fits (λ some. absurd (cc (c.in_err-view.ensures.complete some.0 some.1))))

pub returns-clause-complete : goal.returns-clause-complete
returns-clause-complete c = λ model is.
    let P : List ℕ → Type 0 = λ root. IsModel root model in
    c.in_ok-model.ensures.model model (subst P (sym c.in_ok-view.ensures.sound.0) is)
