use Rattle.cli_names.proofs.Prelude.{ℕ, inl, inr, List, TypeDef, HasRow, Metadata, HasPath, IsBare, IsMeant, IsOnly}
use Rattle.cli_names.proofs.path.type_meant.Goals as goal

not_meant : (model : Metadata) (path : List ℕ) → ((row : ℕ) → HasRow model TypeDef row → ¬ HasPath model path row) → (IsBare path → (row : ℕ) → ¬ IsOnly model path row) → (row : ℕ) → ¬ IsMeant model path row
not_meant model path none not_only row meant = elim meant [ inl first ↦ none row first.there first.has | inr only ↦ not_only only.1 row only.2 ]

pub returns-in-Some-clause-sound : goal.returns-in-Some-clause-sound
returns-in-Some-clause-sound c = λ model is. inl (rw c.in-Some.is at (c.in_ok-row.ensures.sound model is))

pub returns-then-not-is_bare-clause-none : goal.returns-then-not-is_bare-clause-none
returns-then-not-is_bare-clause-none c = λ model is.
    not_meant model c.args.path.now (rw c.in_default.is at (c.in_ok-row.ensures.none model is)) (λ bare. let yes = c.is_bare.ensures.1 bare in let no = c.if-not-is_bare.true in absurd cc)

pub returns-in_default-named_after-clause-none : goal.returns-in_default-named_after-clause-none
returns-in_default-named_after-clause-none c = λ model is.
    not_meant model c.args.path.now (rw c.in_default.is at (c.in_ok-row.ensures.none model is))
    (λ bare row only. (rw c.in_default-named_after.is at (c.named_after.ensures.none model is)) row only.there only.there.0 only.named)
