-- The numbers in one column of a table, row by row (ECMA-335 II.24.2.6).
use Rattle.std.specs.Prelude.{◌≡◌, ℕ, ◌+◌, ◌-◌, ◌*◌, ◌≤◌, ◌<◌, List, length}
use Rattle.packed.specs.Number.{little_endian}
use Rattle.packed.specs.Offsets.{part}
use Rattle.schema.specs.Sizes.{IsWidth}
use Rattle.rows.specs.declared.column_numbers.ColumnNumbers.TheInside.{Inside}

-- the bytes from the cell of row 1 on, the number of bytes from a cell to the next row's, the width of a cell, and
-- the number of rows
pub record ColumnBytes : Type 0 where
  pub bytes : List ℕ
  pub step : ℕ
  pub width : ℕ
  pub count : ℕ

-- the number in a row; rows are counted from 1
abbrev pub number_in_row : ColumnBytes → ℕ → ℕ
number_in_row column row = little_endian (part column.bytes ((row - 1) * column.step) column.width)

-- the number is in a row before a limit
pub record IsAmong (column : ColumnBytes) (limit number : ℕ) : Type 0 where
  pub row : ℕ
  pub first : 1 ≤ row
  pub before : row < limit
  pub equal : number ≡ number_in_row column row

-- no number is less than that of the row before
abbrev pub NeverFalls : ColumnBytes → Type 0
NeverFalls column = (row : ℕ) → 2 ≤ row → row ≤ column.count → number_in_row column (row - 1) ≤ number_in_row column row

abbrev pub column_seen : Inside → ColumnBytes
column_seen column = record { bytes = column.bytes.now; step = column.step; width = column.width; count = column.count }

-- the cells of all rows are within the bytes
pub record AreWithin (column : Inside) : Type 0 where
  pub width : IsWidth column.width
  pub rows : (row : ℕ) → 1 ≤ row → row ≤ column.count → (row - 1) * column.step + column.width ≤ length column.bytes.now
