-- The rows with a key.
use Rattle.std.proofs.Common.{◌≡◌, ◌≢◌, ℕ, ◌+◌, ◌-◌, ◌<◌, ◌≤◌, ◌==◌, true, false, List, [], ◌∷◌, sym, ◌∙◌, ap, arith}
use Rattle.reading.proofs.Prelude.{eq-eqb, nat_tests, key_at, rows_that, rows_with}
use Rattle.reading.proofs.RowLemmas.{none_that, skip_that, cut_that, first_that}

-- the next row with a key number, or the end of the rows
pub record IsNextWith (numbers : List ℕ) (number first past row : ℕ) : Type 0 where
  pub from : first ≤ row
  pub to : row ≤ past
  pub none : (earlier : ℕ) → first ≤ earlier → earlier < row → key_at numbers earlier ≢ number
  pub found : row < past → key_at numbers row ≡ number

module _ (numbers : List ℕ) (number : ℕ) where
  test_of : (row : ℕ) → key_at numbers row ≡ number → (key_at numbers row == number) ≡ true
  test_of row is = eq-eqb (key_at numbers row) number is

  fails_of : (row : ℕ) → key_at numbers row ≢ number → (key_at numbers row == number) ≡ false
  fails_of row other = grind (arith, nat_tests)

  -- none of these rows has the key number
  pub with_none : (first past : ℕ) → ((row : ℕ) → first ≤ row → row < past → key_at numbers row ≢ number)
      → rows_with numbers number first past ≡ []
  with_none first past none = none_that (λ row. key_at numbers row == number) first (past - first)
      (λ row low high. fails_of row (none row low (omega arith)))

  -- the first of these rows that has it
  pub with_first : (first past found : ℕ) → first ≤ found → found < past → ((row : ℕ) → first ≤ row → row < found
      → key_at numbers row ≢ number) → key_at numbers found ≡ number
      → rows_with numbers number first past ≡ found ∷ rows_with numbers number (found + 1) past
  with_first first past found low high none is =
      let tail : first + (past - first) - (found + 1) ≡ past - (found + 1) = omega arith in
      first_that (λ row. key_at numbers row == number) first (past - first) found low (omega arith)
      (λ row a b. fails_of row (none row a b)) (test_of found is)
      ∙ ap (λ n. found ∷ rows_that (λ row. key_at numbers row == number) (found + 1) n) tail

  -- the rows with the key number if they are a run
  pub with_run : (count first past : ℕ) → 1 ≤ first → first ≤ past → past ≤ count + 1 → ((row : ℕ) → 1 ≤ row → row ≤ count
      → key_at numbers row ≡ number → (first ≤ row) × (row < past))
      → rows_with numbers number first past ≡ rows_with numbers number 1 (count + 1)
  with_run count first past low within high only =
      let a : 1 + (count + 1 - 1) - first ≡ count + 1 - first = omega arith in
      sym (skip_that (λ row. key_at numbers row == number) 1 (count + 1 - 1) first low (omega arith)
      (λ row b c. fails_of row (λ is. let h = only row b (omega arith) is in absurd (omega (arith, h.0))))
      ∙ ap (λ n. rows_that (λ row. key_at numbers row == number) first n) a
      ∙ cut_that (λ row. key_at numbers row == number) first (count + 1 - first) (past - first) (omega arith)
      (λ row b c. fails_of row (λ is. let h = only row (omega arith) (omega arith) is in absurd (omega (arith, h.1)))))
