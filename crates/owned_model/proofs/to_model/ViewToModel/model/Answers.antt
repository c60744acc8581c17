use Rattle.owned_model.proofs.Prelude.{sym, subst, ◌∙◌, ∥∥₁_map, Metadata, IsModel}
use Rattle.owned_model.proofs.to_model.ViewToModel.model.Goals as goal

pub returns-clause-model : goal.returns-clause-model
returns-clause-model c = λ model is. c.of_valid.ensures ∙ c.in_ok-tables.ensures.model model is

pub returns-clause-sound : goal.returns-clause-sound
returns-clause-sound c =
    ∥∥₁_map c.root-root.ensures.model (λ some.
    let P : Metadata → Type 0 = λ model. IsModel c.args.self.now model in
    subst P (sym (c.of_valid.ensures ∙ c.in_ok-tables.ensures.model some.0 some.1)) some.1)
