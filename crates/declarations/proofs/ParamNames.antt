-- The first row with a number, and the parameter in it.
use Rattle.declarations.proofs.Prelude.{◌≡◌, ◌==◌, ℕ, zero, suc, ◌+◌, ◌<◌, true, false, cond, List, [], ◌∷◌, Some, None, slice_get, map, length, get_or, refl, ap, arith, filter, subst, Metadata, IsValid, KeyedRow, has_key, keyed_row, keyed_rows, row_of, AreParams, IsParamAt, IsParamRow, position_in}
use Rattle.reading.specs.KeyRows.{rows_that}
use Rattle.declarations.proofs.MarshalLemmas.{first_that}
use Rattle.declarations.proofs.ParamExists.{has_position, param_first}

-- the rows with a number, in ascending order
rows_keyed : (number : ℕ → ℕ) (first count key : ℕ) → map row_of (filter (has_key key) (keyed_rows number first count)) ≡ rows_that (λ row. number row == key) first count
rows_keyed number first zero key = refl
rows_keyed number first (suc count) key =
    let later = filter (has_key key) (keyed_rows number (first + 1) count) in
    let left = rows_that (λ row. number row == key) (first + 1) count in
    elim (number first == key) as (λ t. map row_of (cond t (keyed_row number first ∷ later) later) ≡ cond t (first ∷ left) left) [
      | true ↦ ap (λ rows. first ∷ rows) (rows_keyed number (first + 1) count key)
      | false ↦ rows_keyed number (first + 1) count key
    ]

first_of : (found : List KeyedRow) (d : KeyedRow) → 0 < length found → slice_get (map row_of found) 0 ≡ Some (get_or found 0 d).row
first_of [] d some = absurd (omega (arith, some))
first_of (x ∷ found) d some = refl

none_of : (found : List KeyedRow) → length found ≡ 0 → slice_get (map row_of found) 0 ≡ None
none_of [] empty = refl
none_of (x ∷ found) empty = absurd (omega (arith, empty))

module _ (model : Metadata) (valid : IsValid model) (first past position : ℕ) (rows found : List KeyedRow) (are : AreParams model first past rows)
    (is_found : found ≡ filter (has_key position) rows) where
  found_first : IsParamRow model first past position (slice_get (map row_of found) 0)
  found_first = rw (is_found, are.2 position, rows_keyed (position_in model) are.0 are.1 position)
      (param_first model valid first past position are.0 are.1 are.3 _ (first_that (has_position model valid first past position) are.0 are.1))

  -- the first row that was found
  pub found_row : (d : KeyedRow) → 0 < length found → IsParamAt model first past position (get_or found 0 d).row
  found_row d some = subst (IsParamRow model first past position) (first_of found d some) found_first

  -- no row was found
  pub no_row : length found ≡ 0 → IsParamRow model first past position None
  no_row empty = subst (IsParamRow model first past position) (none_of found empty) found_first
