-- The key numbers of a table, row by row (ECMA-335 II.22).
use Rattle.std.specs.Prelude.{ℕ, List, map}
use Rattle.std.specs.List.{range_with_len}

-- the numbers of all rows of a table, by the number of a row
unfoldable pub all_numbers : (ℕ → ℕ) → ℕ → List ℕ
all_numbers number count = map number (range_with_len 1 count)
