-- The rows that pass a test.
use Rattle.std.proofs.Common.{◌≡◌, ℕ, zero, suc, ◌+◌, ◌-◌, ◌<◌, ◌≤◌, Bool, true, false, [], ◌∷◌, ◌++◌, refl, sym, ◌∙◌, ap, arith}
use Rattle.std.specs.List.{filter, range_with_len}
use Rattle.std.proofs.lemmas.List.{append-nil}
use Rattle.std.proofs.lemmas.List.Elements.{filter-append}
use Rattle.reading.proofs.Prelude.{rows_that}

module _ (test : ℕ → Bool) where
  -- none of the rows from one to before another passes
  abbrev pub NoneBetween : ℕ → ℕ → Type 0
  NoneBetween first past = (row : ℕ) → first ≤ row → row < past → test row ≡ false

  pub none_that : (row left : ℕ) → NoneBetween row (row + left) → rows_that test row left ≡ []
  none_that row zero none = refl
  none_that row (suc left) none = rw (none row (omega arith) (omega arith)) (none_that (row + 1) left (λ r low high. none r (omega arith) (omega arith)))

  range_split : (row less more left : ℕ) → left ≡ less + more → range_with_len row left ≡ range_with_len row less ++ range_with_len (row + less) more
  range_split row zero more left sum =
      let all : left ≡ more = omega arith in
      let same : row ≡ row + 0 = omega arith in
      ap (λ n. range_with_len row n) all ∙ ap (λ r. range_with_len r more) same
  range_split row (suc less) more left sum =
      let all : left ≡ suc (less + more) = omega arith in
      let next : row + 1 + less ≡ row + suc less = omega arith in
      ap (λ n. range_with_len row n) all ∙ ap (λ rows. row ∷ rows)
      (range_split (row + 1) less more (less + more) refl ∙ ap (λ r. range_with_len (row + 1) less ++ range_with_len r more) next)

  rows_split : (row left less more next : ℕ) → left ≡ less + more → next ≡ row + less
      → rows_that test row left ≡ rows_that test row less ++ rows_that test next more
  rows_split row left less more next sum at =
      ap (filter test) (range_split row less more left sum) ∙ filter-append test (range_with_len row less) (range_with_len (row + less) more)
      ∙ ap (λ r. rows_that test row less ++ rows_that test r more) (sym at)

  -- rows that do not pass may be left out at the start
  pub skip_that : (row left next : ℕ) → row ≤ next → next ≤ row + left → NoneBetween row next
      → rows_that test row left ≡ rows_that test next (row + left - next)
  skip_that row left next low high none =
      rows_split row left (next - row) (row + left - next) next (omega arith) (omega arith)
      ∙ ap (λ rows. rows ++ rows_that test next (row + left - next)) (none_that row (next - row) (λ r a b. none r a (omega arith)))

  -- and at the end
  pub cut_that : (row left less : ℕ) → less ≤ left → NoneBetween (row + less) (row + left) → rows_that test row left ≡ rows_that test row less
  cut_that row left less low none =
      rows_split row left less (left - less) (row + less) (omega arith) refl
      ∙ ap (λ rows. rows_that test row less ++ rows) (none_that (row + less) (left - less) (λ r a b. none r a (omega arith)))
      ∙ append-nil (rows_that test row less)

  -- the first row that passes
  pub first_that : (row left found : ℕ) → row ≤ found → found < row + left → NoneBetween row found → test found ≡ true
      → rows_that test row left ≡ found ∷ rows_that test (found + 1) (row + left - (found + 1))
  first_that row left found low high none passes =
      let more : row + left - found ≡ suc (row + left - (found + 1)) = omega arith in
      let step : rows_that test found (suc (row + left - (found + 1))) ≡ found ∷ rows_that test (found + 1) (row + left - (found + 1)) =
      rw passes refl in
      skip_that row left found low (omega arith) none ∙ ap (λ n. rows_that test found n) more ∙ step
