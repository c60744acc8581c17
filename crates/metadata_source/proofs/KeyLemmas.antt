-- The key numbers of a table, and the rows with a key.
use Rattle.metadata_source.proofs.Prelude.{◌≡◌, ◌≢◌, ℕ, zero, suc, ◌+◌, ◌-◌, ◌≤◌, ◌==◌, ◌↔◌, List, length, slice_index_or, Option, Some, None, IfSome, IfNone, sym, ◌∙◌, ap, subst, arith, IsNonDecreasing, eq-eqb, eqb-true, TableId, Metadata, count_in, cell_in, HasRow, HasKey, IsKeyCell, IsOfKind, row_number, key_number, key_in, IsKeyOrdered, key_at, rows_with}
use Rattle.std.specs.List.{Contains}
use Rattle.table_schema.specs.declared.token.Token.{Token}
use Rattle.metadata.specs.Cell as says
use Rattle.metadata.specs.Valid.{IsValid, MayRefer, kind_at, nullable_at}
use Rattle.metadata_source.specs.Keys.{all_numbers}
use Rattle.std.proofs.lemmas.List.FromFn.{length-map-range_with_len, get_or-map-range_with_len}
use Rattle.metadata_source.proofs.CellLemmas.{key_is_one}
use Rattle.metadata_source.proofs.RowLemmas.{that_passes, passes_that}

module _ (f : ℕ → ℕ) (n : ℕ) where
  -- there is one number a row
  pub numbers_count : length (all_numbers f n) ≡ n
  unfolding all_numbers
  numbers_count = length-map-range_with_len f 1 n

  pub number_is : (row d : ℕ) → 1 ≤ row → row ≤ n → slice_index_or (all_numbers f n) (row - 1) d ≡ f row
  unfolding all_numbers
  number_is row d first last = get_or-map-range_with_len f 1 n (row - 1) row d (omega arith) (omega arith)

  -- numbers of rows none of which is lower than that of the row before
  rising : ((row : ℕ) → 2 ≤ row → row ≤ n → f (row - 1) ≤ f row) → (row gap : ℕ) → 1 ≤ row → row + gap ≤ n → f row ≤ f (row + gap)
  rising order row zero first last = let same : row + 0 ≡ row = omega arith in rw same (omega arith)
  rising order row (suc gap) first last =
      let before = rising order row gap first (omega arith) in
      let next = order (row + suc gap) (omega arith) last in
      let same : row + suc gap - 1 ≡ row + gap = omega arith in
      let step = rw same at next in
      omega arith

  -- as a list
  pub numbers_rise : ((row : ℕ) → 2 ≤ row → row ≤ n → f (row - 1) ≤ f row) → IsNonDecreasing (all_numbers f n)
  numbers_rise order = λ i j d low high.
      let long = numbers_count in
      let a = number_is (i + 1) d (omega arith) (omega arith) in
      let b = number_is (j + 1) d (omega arith) (omega arith) in
      let back : (k : ℕ) → k + 1 - 1 ≡ k = λ k. omega arith in
      let rise = rising order (i + 1) (j - i) (omega arith) (omega arith) in
      let same : i + 1 + (j - i) ≡ j + 1 = omega arith in
      let c = rw same at rise in
      let first = rw (back i) at a in
      let second = rw (back j) at b in
      omega arith

-- a number reports which cells are a token
abbrev pub ReportsKey : Metadata → TableId → ℕ → Token → ℕ → Type 0
ReportsKey model table cell token number = (row : ℕ) → HasRow model table row
    → (cell_in model table row cell ≡ says.Ref (Some token)) ↔ (key_in model table cell row ≡ number)

-- no cell is a token
abbrev pub HasNoKey : Metadata → TableId → ℕ → Token → Type 0
HasNoKey model table cell token = (row : ℕ) → HasRow model table row → cell_in model table row cell ≢ says.Ref (Some token)

-- a key column takes a reference to the row of a token
abbrev pub Takes : TableId → ℕ → Token → Type 0
Takes table cell token = IsOfKind (kind_at table cell) (says.Ref (Some token))

-- in a key column that takes a token, the number of the token is that of no other key
abbrev pub AreOne : TableId → ℕ → Token → Type 0
AreOne table cell token = (key : says.Cell) → IsOfKind (kind_at table cell) key
    → (key ≡ says.Ref (Some token)) ↔ (key_number (kind_at table cell) key ≡ row_number (kind_at table cell) token)

module _ (model : Metadata) (valid : IsValid model) (table : TableId) (cell : ℕ) (at : IsKeyCell table cell) (token : Token) where
  -- the number of a token reports the cells that are the token
  pub reports : (result : Option ℕ) → (Takes table cell token → AreOne table cell token)
      → IfSome result (λ number. number ≡ row_number (kind_at table cell) token) → IfSome result (λ _. Takes table cell token)
      → IfSome result (ReportsKey model table cell token)
  reports None one number takes = tt
  reports (Some number) one is takes = λ row has.
      let reported = one takes (cell_in model table row cell) (valid.cells table row cell has at.within).of_kind in (
        (λ same. reported.0 same ∙ sym is),
        (λ same. reported.1 (same ∙ is)),
      )

  -- a token that the column does not take is no key
  pub none_takes : (result : Option ℕ) → IfNone result (¬ Takes table cell token) → IfNone result (HasNoKey model table cell token)
  none_takes (Some number) none = tt
  none_takes None none = λ row has same.
      let P : says.Cell → Type 0 = λ c. IsOfKind (kind_at table cell) c in
      none (subst P same (valid.cells table row cell has at.within).of_kind)

  -- a token that names no row that exists is no key
  pub not_there : ¬ HasRow model token.table token.row → HasNoKey model table cell token
  not_there none = λ row has same.
      let P : says.Cell → Type 0 = λ c. MayRefer model (nullable_at table cell) c in
      none (subst P same (valid.cells table row cell has at.within).refers)

module _ (model : Metadata) (table : TableId) (cell : ℕ) (at : IsKeyCell table cell) (token : Token) where
  -- the key is in this one cell
  key_here : (row : ℕ) → HasKey model table token row → cell_in model table row cell ≡ says.Ref (Some token)
  key_here row (other, there, is) =
      ap (λ p. cell_in model table row p) (key_is_one table cell other at there) ∙ is

  -- no row has a key that no cell is
  pub none_has : HasNoKey model table cell token → (row : ℕ) → ¬ (HasRow model table row × HasKey model table token row)
  none_has none row both = none row both.0 (key_here row both.1)

  module _ (f : ℕ → ℕ) (n : ℕ) (count : count_in model table ≡ n) (keys : (row : ℕ) → 1 ≤ row → row ≤ n → f row ≡ key_in model table cell row) where
    -- keys that never fall, as a list
    pub keys_rise : IsKeyOrdered model table → IsNonDecreasing (all_numbers f n)
    keys_rise order = numbers_rise f n (λ row second last.
        let before = keys (row - 1) (omega arith) (omega arith) in
        let here = keys row (omega arith) last in
        let up = order cell row at second (omega arith) in
        omega arith)

    -- the rows whose key has the number are those with the key
    pub rows_are : (number : ℕ) → ReportsKey model table cell token number → (rows : List ℕ)
        → rows ≡ rows_with (all_numbers f n) number 1 (length (all_numbers f n) + 1)
        → (row : ℕ) → Contains rows row ↔ (HasRow model table row × HasKey model table token row)
    rows_are number reports rows is row =
        let long = numbers_count f n in
        let test = λ (r : ℕ). key_at (all_numbers f n) r == number in
        let P : List ℕ → Type 0 = λ l. Contains l row in (
          (λ has.
              let passes = that_passes 1 (length (all_numbers f n) + 1 - 1) test row (subst P is has) in
              let first = passes.0 in
              let past = passes.1 in
              let last : row ≤ n = omega arith in
              let there : row ≤ count_in model table = omega arith in
              let equal = eqb-true (key_at (all_numbers f n) row) number passes.2 in
              ((first, there), (cell, at, (reports row (first, there)).1 (sym (number_is f n row 0 first last ∙ keys row first last) ∙ equal)))),
          (λ both.
              let first = both.0.0 in
              let there = both.0.1 in
              let last : row ≤ n = omega arith in
              let equal = number_is f n row 0 first last ∙ keys row first last ∙ (reports row both.0).0 (key_here row both.1) in
              subst P (sym is) (passes_that 1 (length (all_numbers f n) + 1 - 1) test row
              (first, omega arith, eq-eqb (key_at (all_numbers f n) row) number equal))),
        )
