-- The rows of NestedClass with a key are those of a nested type, and the first row of an ascending list is the least.
use Rattle.navigation.proofs.Prelude.{∥∥₁_elim, le_prop, IsStrictlyIncreasing, NestedClass, cell_columns, Metadata, count_in, cell_in, HasRow, HasKey, IsKeyCell, ◌≡◌, ℕ, zero, suc, ◌≤◌, ◌↔◌, List, [], ◌∷◌, Option, Some, None, IfSome, IfNone, MatchOption, refl, sym, ◌∙◌, ap, subst, arith, Contains}
use Rattle.std.proofs.lemmas.List.Kept.{AllPairs-from_increasing}
use Rattle.navigation.specs.Nesting.{type_token, IsNesting, IsFirstNesting}

key_cell : IsKeyCell NestedClass 0
unfolding cell_columns
key_cell = record {
  within = omega arith;
  key = refl;
}

key_is_first : (cell : ℕ) → IsKeyCell NestedClass cell → cell ≡ 0
unfolding cell_columns
key_is_first zero at = refl
key_is_first (suc zero) at = absurd (let key = at.key in cc)
key_is_first (suc (suc more)) at = let within = at.within in absurd (omega arith)

-- a row with the key of a type says that the type is nested, and the other way round
abbrev HasTypeKey : Metadata → ℕ → ℕ → Type 0
HasTypeKey model class row = HasRow model NestedClass row × HasKey model NestedClass (type_token class) row

nests : (model : Metadata) (class row : ℕ) → HasTypeKey model class row → IsNesting model class row
nests model class row (there, (cell, at, is)) =
    (there, ap (λ (p : ℕ). cell_in model NestedClass row p) (sym (key_is_first cell at)) ∙ is)

keyed : (model : Metadata) (class row : ℕ) → IsNesting model class row → HasTypeKey model class row
keyed model class row (there, is) = (there, (0, key_cell, is))

-- the first of an ascending list is its least
least : (x : ℕ) (tail : List ℕ) → IsStrictlyIncreasing (x ∷ tail) → (row : ℕ) → Contains (x ∷ tail) row → x ≤ row
least x tail rise row (zero, within, is) = omega arith
least x tail rise row (suc k, within, is) = let less = AllPairs-from_increasing (x ∷ tail) rise 0 (suc k) row (omega arith) within in omega (arith, less, is)

module _ (model : Metadata) (class : ℕ) (rows left : List ℕ) (ascending : IsStrictlyIncreasing rows)
    (keyed_rows : (row : ℕ) → Contains rows row ↔ HasTypeKey model class row) where
  -- the first of the rows with the key is the first that says that the type is nested
  pub first_nests : (found : Option ℕ) → MatchOption found ((rows ≡ []) × (left ≡ [])) (λ x. rows ≡ x ∷ left) → IfSome found (IsFirstNesting model class)
  first_nests None yields = tt
  first_nests (Some row) yields =
      let P : List ℕ → Type 0 = λ l. Contains l row in
      let Q : List ℕ → Type 0 = λ l. IsStrictlyIncreasing l in
      record {
        nesting = nests model class row ((keyed_rows row).0 (subst P (sym yields) (0, omega arith, refl)));
        first = λ earlier is.
            let R : List ℕ → Type 0 = λ l. Contains l earlier in
            least row left (subst Q yields ascending) earlier (subst R yields ((keyed_rows earlier).1 (keyed model class earlier is)));
      }

  -- without rows the type is not nested
  pub none_nests : (found : Option ℕ) → MatchOption found ((rows ≡ []) × (left ≡ [])) (λ x. rows ≡ x ∷ left)
      → IfNone found ((row : ℕ) → ¬ IsNesting model class row)
  none_nests (Some row) yields = tt
  none_nests None yields = λ row is.
      let P : List ℕ → Type 0 = λ l. Contains l row in
      let has = subst P yields.0 ((keyed_rows row).1 (keyed model class row is)) in
      absurd (omega (arith, has.1))

-- the first row of NestedClass of a nested type exists, if it is found in some model with this number of rows
pub first_there : (class count : ℕ) (found : Option ℕ) → ∥ ((model : Metadata) × ((count_in model NestedClass ≡ count) × IfSome found (IsFirstNesting model class))) ∥₁
    → IfSome found (λ row. (1 ≤ row) × (row ≤ count))
first_there class count None some = tt
first_there class count (Some row) some = (
  ∥∥₁_elim some le_prop (λ it. it.1.1.nesting.0.0),
  ∥∥₁_elim some le_prop (λ it. let same = it.1.0 in let last = it.1.1.nesting.0.1 in omega (arith, same, last)),
)
