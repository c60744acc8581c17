-- The first row of FieldMarshal that refers to a parameter.
use Rattle.std.specs.List.Sorted.{IsStrictlyIncreasing}
use Rattle.std.proofs.lemmas.List.Kept.{AllPairs-from_increasing}
use Rattle.declarations.proofs.Prelude.{cases_Bool, cases_eq, eqb-true, eq-eqb, ∥∥₁_elim, TableId, FieldMarshal, Token, cell_columns, Cell, Ref, IsOfKind, HasKey, HasRow, IsKeyCell, Metadata, cell_in, count_in, IsValid, kind_at, first_linked, link_in, linked, number_to, param_token, ◌≡◌, ◌∙◌, ℕ, zero, suc, ◌+◌, ◌<◌, ◌≤◌, ◌↔◌, inl, inr, Bool, true, false, List, [], ◌∷◌, Option, Some, None, IfSome, MatchOption, refl, sym, ap, subst, arith, ◌==◌, slice_get, Contains}
use Rattle.std.specs.Coded.{le_prop}
use Rattle.metadata.specs.KeyOrder.{key_number, row_number}
use Rattle.reading.specs.KeyRows.{rows_that}
use Rattle.navigation.specs.declared.links.Link.TheVariants as link

-- ---- the first row that passes a test

none_that : (test : ℕ → Bool) (row left : ℕ) → ((r : ℕ) → row ≤ r → r < row + left → test r ≡ false) → slice_get (rows_that test row left) 0 ≡ None
none_that test row zero none = refl
none_that test row (suc left) none =
    rw (none row (omega arith) (omega arith)) (none_that test (row + 1) left (λ r from to. none r (omega (arith, from)) (omega (arith, to))))

some_that : (test : ℕ → Bool) (row left x : ℕ) → row ≤ x → x < row + left → test x ≡ true → ((r : ℕ) → row ≤ r → r < x → test r ≡ false) → slice_get (rows_that test row left) 0 ≡ Some x
some_that test row zero x from to passes before = absurd (omega (arith, from, to))
some_that test row (suc left) x from to passes before = elim (cases_eq row x) [
  | inl same ↦ let here : test row ≡ true = ap test same ∙ passes in rw here (ap (λ r. Some r) same)
  | inr other ↦
      let fails : test row ≡ false = before row (omega arith) (omega (arith, from, other)) in
      rw fails (some_that test (row + 1) left x (omega (arith, from, other)) (omega (arith, to)) passes (λ r low high. before r (omega (arith, low)) high))
]

-- it is in the range and passes, and no earlier one does; or none passes
abbrev pub IsFirstThat : (ℕ → Bool) → ℕ → ℕ → Option ℕ → Type 0
IsFirstThat test from past None = (row : ℕ) → from ≤ row → row < past → test row ≡ false
IsFirstThat test from past (Some row) = (from ≤ row) × (row < past) × (test row ≡ true) × ((earlier : ℕ) → from ≤ earlier → earlier < row → test earlier ≡ false)

one_sooner : (test : ℕ → Bool) (from past : ℕ) (found : Option ℕ) → test from ≡ false → IsFirstThat test (from + 1) past found → IsFirstThat test from past found
one_sooner test from past None fails none = λ row low high. elim (cases_eq row from) [
  | inl same ↦ ap test same ∙ fails
  | inr other ↦ none row (omega (arith, low, other)) high
]
one_sooner test from past (Some row) fails is = (
  omega (arith, is.0),
  is.1,
  is.2,
  λ earlier low less. elim (cases_eq earlier from) [
    | inl same ↦ ap test same ∙ fails
    | inr other ↦ is.3 earlier (omega (arith, low, other)) less
  ],
)

pub first_that : (test : ℕ → Bool) (from left : ℕ) → IsFirstThat test from (from + left) (slice_get (rows_that test from left) 0)
first_that test from zero = λ row low high. absurd (omega (arith, low, high))
first_that test from (suc left) = elim (cases_Bool (test from)) [
  | inl passes ↦ rw passes (omega arith, omega arith, passes, λ earlier low less. absurd (omega (arith, low, less)))
  | inr fails ↦
      let past : from + 1 + left ≡ from + suc left = omega arith in
      rw fails (one_sooner test from (from + suc left) (slice_get (rows_that test (from + 1) left) 0) fails (rw past at (first_that test (from + 1) left)))
]

-- the first of an ascending list is its least
least : (x : ℕ) (tail : List ℕ) → IsStrictlyIncreasing (x ∷ tail) → (row : ℕ) → Contains (x ∷ tail) row → x ≤ row
least x tail rise row (zero, within, is) = omega arith
least x tail rise row (suc k, within, is) = let less = AllPairs-from_increasing (x ∷ tail) rise 0 (suc k) row (omega arith) within in omega (arith, less, is)

-- ---- rows of FieldMarshal

marshal_key : IsKeyCell FieldMarshal 0
unfolding cell_columns
marshal_key = record { within = omega arith; key = refl }

key_is_first : (cell : ℕ) → IsKeyCell FieldMarshal cell → cell ≡ 0
unfolding cell_columns
key_is_first zero at = refl
key_is_first (suc zero) at = absurd (let key = at.key in cc)
key_is_first (suc (suc more)) at = let within = at.within in absurd (omega arith)

-- a cell refers to a row if and only if its number is that of the row
abbrev pub KeysAreOne : Type 0
KeysAreOne =
    (table : TableId) (cell : ℕ) → IsKeyCell table cell → (token : Token) → 1 ≤ token.row → IsOfKind (kind_at table cell) (Ref (Some token))
    → (key : Cell) → IsOfKind (kind_at table cell) key
    → (key ≡ Ref (Some token)) ↔ (key_number (kind_at table cell) key ≡ row_number (kind_at table cell) token)

module _ (keys : KeysAreOne) (model : Metadata) (valid : IsValid model) (param : ℕ) (some : 1 ≤ param) where
  abbrev refers : ℕ → Bool
  refers row = link_in model link.Marshalling row == number_to link.Marshalling (param_token param)

  keys_of : (row : ℕ) → HasRow model FieldMarshal row → (cell_in model FieldMarshal row 0 ≡ Ref (Some (param_token param))) ↔ (link_in model link.Marshalling row ≡ number_to link.Marshalling (param_token param))
  unfolding cell_columns
  keys_of row there = keys FieldMarshal 0 marshal_key (param_token param) some (1, omega arith, refl) (cell_in model FieldMarshal row 0) (valid.cells FieldMarshal row 0 there (omega arith)).of_kind

  abbrev HasParamKey : ℕ → Type 0
  HasParamKey row = HasRow model FieldMarshal row × HasKey model FieldMarshal (param_token param) row

  passes : (row : ℕ) → HasParamKey row → refers row ≡ true
  passes row (there, (cell, at, is)) =
      let here = ap (λ (p : ℕ). cell_in model FieldMarshal row p) (sym (key_is_first cell at)) ∙ is in
      eq-eqb (link_in model link.Marshalling row) (number_to link.Marshalling (param_token param)) ((keys_of row there).0 here)

  keyed : (row : ℕ) → HasRow model FieldMarshal row → refers row ≡ true → HasParamKey row
  keyed row there is =
      (there, (0, marshal_key, (keys_of row there).1 (eqb-true (link_in model link.Marshalling row) (number_to link.Marshalling (param_token param)) is)))

  module _ (rows left : List ℕ) (ascending : IsStrictlyIncreasing rows) (keyed_rows : (row : ℕ) → Contains rows row ↔ HasParamKey row) where
    fails : (row : ℕ) → HasRow model FieldMarshal row → ¬ Contains rows row → refers row ≡ false
    fails row there not = elim (cases_Bool (refers row)) [
      | inl is ↦ absurd (not ((keyed_rows row).1 (keyed row there is)))
      | inr no_key ↦ no_key
    ]

    pub found_first : (found : Option ℕ) → MatchOption found ((rows ≡ []) × (left ≡ [])) (λ x. rows ≡ x ∷ left) → found ≡ first_linked model link.Marshalling (param_token param)
    unfolding linked
    found_first None yields =
        sym (none_that refers 1 (count_in model FieldMarshal)
        (λ r from to. fails r (from, omega (arith, to)) (λ has. let P : List ℕ → Type 0 = λ l. Contains l r in let none = subst P yields.0 has in absurd (omega (arith, none.1)))))
    found_first (Some x) yields =
        let P : List ℕ → Type 0 = λ l. Contains l x in
        let Q : List ℕ → Type 0 = λ l. IsStrictlyIncreasing l in
        let has = (keyed_rows x).0 (subst P (sym yields) (0, omega arith, refl)) in
        let last = has.0.1 in
        sym (some_that refers 1 (count_in model FieldMarshal) x has.0.0 (omega (arith, last)) (passes x has)
        (λ r from to. fails r (from, omega (arith, to, last)) (λ also. let R : List ℕ → Type 0 = λ l. Contains l r in
        let low = least x left (subst Q yields ascending) r (subst R yields also) in absurd (omega (arith, low, to)))))

-- the first row that refers to a parameter is a row of the table, in this source too
first_within : (model : Metadata) (param row : ℕ) → Some row ≡ first_linked model link.Marshalling (param_token param) → (1 ≤ row) × (row < 1 + count_in model FieldMarshal)
unfolding linked
first_within model param row is =
    let test : ℕ → Bool = λ r. link_in model link.Marshalling r == number_to link.Marshalling (param_token param) in
    let first = subst (IsFirstThat test 1 (1 + count_in model FieldMarshal)) (sym is) (first_that test 1 (count_in model FieldMarshal)) in (first.0, first.1)

pub first_there : (count : ℕ) (param : ℕ) (found : Option ℕ) → ∥ ((model : Metadata) × ((count_in model FieldMarshal ≡ count) × (found ≡ first_linked model link.Marshalling (param_token param)))) ∥₁
    → IfSome found (λ row. (1 ≤ row) × (row ≤ count))
first_there count param None some = tt
first_there count param (Some row) some = (
  ∥∥₁_elim some le_prop (λ it. (first_within it.0 param row it.1.1).0),
  ∥∥₁_elim some le_prop (λ it. let last = (first_within it.0 param row it.1.1).1 in omega (arith, it.1.0, last)),
)
