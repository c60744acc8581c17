-- The type that has a method.
use Rattle.custom_attributes.proofs.Prelude.{◌≡◌, ◌∙◌, ◌≤◌, ◌<◌, ◌+◌, ◌-◌, ℕ, zero, suc, None, cond, ap, arith, refl, le-leb, lt-leb, TableId, MemberRef, MethodDef, TypeDef, Metadata, cell_in, count_in, IsValid, start_in, owner_among, type_of}
use Rattle.metadata.specs.declared.member_lists.MemberList.TheVariants as list
use Rattle.navigation.specs.Owners.{Owns}

module _ (model : Metadata) (valid : IsValid model) (method owner : ℕ) (owns : Owns model list.Methods owner method) where
  abbrev start : ℕ → ℕ
  start row = start_in (cell_in model TypeDef row 5)

  begins : (row : ℕ) → row ≡ owner → start row ≤ method
  begins row is = let e = ap start is ∙ ap start_in owns.run.start in let from = owns.from in omega (arith, e, from)

  later : (k row : ℕ) → row ≡ owner + 1 + k → row ≤ count_in model TypeDef → method < start row
  later zero row is within =
      let next : row ≡ owner + 1 = omega (arith, is) in
      let e = ap start next ∙ ap start_in (owns.run.next (omega (arith, is, within))) in
      let to = owns.to in
      omega (arith, e, to)
  later (suc k) row is within =
      let before = later k (row - 1) (omega (arith, is)) (omega (arith, is, within)) in
      let rises = (valid.linked.owned list.Methods).rising row (omega (arith, is)) within in
      omega (arith, before, rises)

  among : (k count : ℕ) → count ≡ owner + k → count ≤ count_in model TypeDef → owner_among model method count ≡ owner
  unfolding owner_among
  among zero zero is within = omega (arith, is)
  among zero (suc n) is within =
      let same : suc n ≡ owner = omega (arith, is) in
      (λ i. cond (le-leb (start (suc n)) method (begins (suc n) same) i) (suc n) (owner_among model method n)) ∙ same
  among (suc k) zero is within = absurd (omega (arith, is))
  among (suc k) (suc n) is within =
      (λ i. cond (lt-leb (start (suc n)) method (later k (suc n) (omega (arith, is)) within) i) (suc n) (owner_among model method n))
      ∙ among k n (omega (arith, is)) (omega (arith, within))

  pub owner_is : owner_among model method (count_in model TypeDef) ≡ owner
  owner_is =
      let last = owns.there.1 in
      let count = count_in model TypeDef in
      among (count - owner) count (omega (arith, last)) (omega arith)

pub no_type : (model : Metadata) (table : TableId) (row : ℕ) → (table ≡ MethodDef → ⊥) → (table ≡ MemberRef → ⊥) → None ≡ type_of model table row
no_type model MethodDef row a b = absurd (a refl)
no_type model MemberRef row a b = absurd (b refl)
no_type model _ row a b = refl
