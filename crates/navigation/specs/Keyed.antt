-- Rows with a number that each of them has.
use Rattle.std.specs.Prelude.{◌≡◌, ℕ, ◌==◌, Bool, List, map}
use Rattle.std.specs.List.{filter, range_with_len}
use Rattle.std.specs.List.Sorted.{IsNonDecreasingBy}
use Rattle.reading.specs.KeyRows.{rows_that}
use Rattle.navigation.specs.declared.keyed.KeyedRow.{KeyedRow}

abbrev pub key_of : KeyedRow → ℕ
key_of keyed = keyed.key

abbrev pub row_of : KeyedRow → ℕ
row_of keyed = keyed.row

abbrev pub has_key : ℕ → KeyedRow → Bool
has_key key keyed = keyed.key == key

-- a row with its number
abbrev pub keyed_row : (ℕ → ℕ) → ℕ → KeyedRow
keyed_row number row = record { key = number row; row = row }

-- this many rows with their numbers, from one on
abbrev pub keyed_rows : (ℕ → ℕ) → ℕ → ℕ → List KeyedRow
keyed_rows number first count = map (keyed_row number) (range_with_len first count)

-- these are the rows with their numbers, in the order of the numbers: those with one number are in ascending order
pub record AreByKey (number : ℕ → ℕ) (first count : ℕ) (rows : List KeyedRow) : Type 0 where
  pub sorted : IsNonDecreasingBy key_of rows
  pub with_key : (key : ℕ) → map row_of (filter (has_key key) rows) ≡ rows_that (λ row. number row == key) first count
