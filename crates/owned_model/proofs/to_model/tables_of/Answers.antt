use Rattle.owned_model.proofs.Prelude.{ℕ, List, ap, sym, subst, ◌∙◌, ∥∥₁_map, Metadata, IsValid}
use Rattle.owned_model.proofs.to_model.tables_of.Goals as goal

pub returns-clause-model : goal.returns-clause-model
returns-clause-model c = λ model is.
    let version = c.in_ok-tables.ensures.version ∙ c.version.ensures model is in
    let user = c.in_ok-copy_padded.ensures ∙ c.user.ensures.model model is in
    c.in_ok-load_tables.ensures model is
    ∙ ap (λ (m : Metadata). let t : Metadata = record m { tables = model.tables } in t) c.set_user.ensures
    ∙ ap (λ (v : List ℕ). let t : Metadata = record { version = v; user = c.in_ok-copy_padded.field-0.items; tables = model.tables } in t) version
    ∙ ap (λ (u : List ℕ). let t : Metadata = record { version = model.version; user = u; tables = model.tables } in t) user

pub returns-clause-valid : goal.returns-clause-valid
returns-clause-valid c = ∥∥₁_map c.root-root.ensures.model (λ some.
    let P : Metadata → Type 0 = λ tables. IsValid tables in
    subst P (sym (returns-clause-model c some.0 some.1)) (c.models_of_roots_are_valid.ensures c.args.view.now some.0 some.1))
