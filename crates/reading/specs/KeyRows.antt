-- The rows with a key, found one after another.
use Rattle.std.specs.Prelude.{◌≡◌, ℕ, ◌+◌, ◌-◌, ◌≤◌, ◌<◌, ◌==◌, Bool, true, List, length, filter}
use Rattle.std.specs.List.{range_with_len}
use Rattle.rows.specs.Keys.{key_at}

-- the rows that remain, in order, and the number of keys that were read to find them
pub record RowsLeft : Type 0 where
  pub rows : List ℕ
  pub reads : ℕ

-- the rows that pass a test, from a row on; the second number counts the rows that are left
abbrev pub rows_that : (ℕ → Bool) → ℕ → ℕ → List ℕ
rows_that test row left = filter test (range_with_len row left)

-- the rows with a key number, from the numbers of all rows
abbrev pub rows_with : List ℕ → ℕ → ℕ → ℕ → List ℕ
rows_with numbers number first past = rows_that (λ row. key_at numbers row == number) first (past - first)

-- the rows with a key number that remain, from one row to before another
abbrev pub left_of : List ℕ → ℕ → ℕ → ℕ → ℕ → RowsLeft
left_of numbers number next past reads = record { rows = rows_with numbers number next past; reads = reads }

-- they are rows of the table, and if they are a run, each has the key number
pub record AreLeft (numbers : List ℕ) (number next past : ℕ) (is_run : Bool) : Type 0 where
  pub first : 1 ≤ next
  pub within : next ≤ past
  pub last : past ≤ length numbers + 1
  pub run : is_run ≡ true → (row : ℕ) → next ≤ row → row < past → key_at numbers row ≡ number
