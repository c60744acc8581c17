-- The type that a path means.
use Rattle.cli_names.proofs.Prelude.{◌≡◌, ◌≢◌, ◌∙◌, ◌↔◌, All, Bool, false, IsTrue, ℕ, suc, List, [], ◌∷◌, ◌++◌, Option, None, Some, IfNone, IfSome, refl, ap, sym, subst, inl, inr, arith, slice_index_or, TableId, Text, NestedClass, TypeDef, TypeRef, Metadata, cell_in, IsEnclosed, IsNesting, IsOuter, IsFullName, HasOwnName, HasParts, IsAround, IsOutside, row_in}
use Rattle.metadata.specs.KeyOrder.{IsKeyOrdered}

-- at most one row is outside of another
one_outer : (model : Metadata) (row a b : ℕ) → IsOuter model row a → IsOuter model row b → a ≡ b
one_outer model row a b p q =
    let le = p.1.nesting.first q.1.row q.1.nesting.nesting in
    let ge = q.1.nesting.first p.1.row p.1.nesting.nesting in
    let same : p.1.row ≡ q.1.row = omega (arith, le, ge) in
    ap row_in (sym p.1.encloses ∙ ap (λ r. cell_in model NestedClass r 1) same ∙ q.1.encloses)

one_outside : (model : Metadata) (table : TableId) (row a b : ℕ) → IsOutside model table row a → IsOutside model table row b → a ≡ b
one_outside model TypeDef row a b p q = one_outer model row a b p q
one_outside model TypeRef row a b p q = ap row_in (sym p ∙ q)
one_outside model _ row a b p q = absurd p

one_around : (model : Metadata) (table : TableId) (row : ℕ) (a b : Option ℕ) → IsAround (IsOutside model table) row a → IsAround (IsOutside model table) row b → a ≡ b
one_around model table row None None p q = refl
one_around model table row None (Some b) p q = absurd (p.1 b q.0)
one_around model table row (Some a) None p q = absurd (q.1 a p.0)
one_around model table row (Some a) (Some b) p q = ap (λ n. Some n) (one_outside model table row a b p.0 q.0)

-- what is outside of a type, by what encloses it
pub around_own : (model : Metadata) (row : ℕ) (found : Option ℕ) → IsKeyOrdered model NestedClass → IfSome found (IsEnclosed model row)
    → IfNone found ((nesting : ℕ) → ¬ IsNesting model row nesting) → IsAround (IsOutside model TypeDef) row found
around_own model row None ordered some none = (tt, λ outer own. none own.1.row own.1.nesting.nesting)
around_own model row (Some outer) ordered some none = ((ordered, some), tt)

-- nothing is outside of a row of another table
pub none_outside : (model : Metadata) (table : TableId) (row outer : ℕ) → table ≢ TypeDef → table ≢ TypeRef → IsOutside model table row outer → ⊥
none_outside model TypeDef row outer own other is = own refl
none_outside model TypeRef row outer own other is = other refl
none_outside model _ row outer own other is = is

-- a text is the full name of one type
no_dot_in : (xs ys : List ℕ) → All (λ byte. byte ≢ 46) (xs ++ 46 ∷ ys) → ⊥
no_dot_in [] ys none = none 0 0 (omega arith) refl
no_dot_in (x ∷ xs) ys none = no_dot_in xs ys (λ k d lt. none (suc k) d (omega arith))

last_dot : (a b n m : List ℕ) → All (λ byte. byte ≢ 46) n → All (λ byte. byte ≢ 46) m → a ++ 46 ∷ n ≡ b ++ 46 ∷ m → (a ≡ b) × (n ≡ m)
last_dot [] [] n m p q e = let same : n ≡ m = cc in (refl, same)
last_dot [] (y ∷ b) n m p q e = let tail : n ≡ b ++ 46 ∷ m = cc in absurd (no_dot_in b m (subst (λ (t : List ℕ). All (λ byte. byte ≢ 46) t) tail p))
last_dot (x ∷ a) [] n m p q e = let tail : m ≡ a ++ 46 ∷ n = cc in absurd (no_dot_in a n (subst (λ (t : List ℕ). All (λ byte. byte ≢ 46) t) tail q))
last_dot (x ∷ a) (y ∷ b) n m p q e =
    let head : x ≡ y = cc in
    let tail : a ++ 46 ∷ n ≡ b ++ 46 ∷ m = cc in
    let same = last_dot a b n m p q tail in
    (λ i. head i ∷ same.0 i, same.1)

pub one_name : (part a b n m : List ℕ) → IsFullName part a n → IsFullName part b m → (a ≡ b) × (n ≡ m)
one_name part a b n m (p, inl x) (q, inl y) = last_dot a b n m p q (sym x ∙ y)
one_name part a b n m (p, inl x) (q, inr y) = absurd (no_dot_in a n (rw (← y.1, x) at q))
one_name part a b n m (p, inr x) (q, inl y) = absurd (no_dot_in b m (rw (← x.1, y) at p))
one_name part a b n m (p, inr x) (q, inr y) = (x.0 ∙ sym y.0, sym x.1 ∙ y.1)

module _ (model : Metadata) (table : TableId) (part a n : List ℕ) (row : ℕ) (full : IsFullName part a n) where
  pub of_namespace : cell_in model table row 1 ≡ Text n → (test : Bool) → IsTrue test ↔ (cell_in model table row 2 ≡ Text a) → IsTrue test ↔ HasOwnName model table part row
  of_namespace named test iff =
      (λ yes. (a, n, full, named, iff.0 yes), λ own. iff.1 (own.4 ∙ ap (λ t. Text t) (one_name part own.0 a own.1 n own.2 full).0))

  pub of_no_name : (test : Bool) → test ≡ false → IsTrue test ↔ (cell_in model table row 1 ≡ Text n) → IsTrue test ↔ HasOwnName model table part row
  of_no_name test fails iff =
      (λ yes. absurd cc, λ own. iff.1 (own.3 ∙ ap (λ t. Text t) (one_name part own.0 a own.1 n own.2 full).1))

-- the last part is the name of a row, and those before it are the names of what is outside
pub part_more : (model : Metadata) (table : TableId) (row : ℕ) (parts : List (List ℕ)) (k : ℕ) (outer : Option ℕ) → IsAround (IsOutside model table) row outer
    → HasParts model table parts (suc k) (Some row) ↔ (HasOwnName model table (slice_index_or parts k []) row × HasParts model table parts k outer)
part_more model table row parts k outer around =
    (λ has. (has.0, subst (HasParts model table parts k) (one_around model table row has.1 outer has.2 around) has.3), λ it. (it.0, outer, around, it.1))
