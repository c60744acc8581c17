-- The cells of a table stream (ECMA-335 II.24.2.6): their offsets, and the numbers read there.
use Rattle.std.specs.Prelude.{◌≡◌, ℕ, ◌^◌, ◌<◌, List, length, map}
use Rattle.std.specs.List.{range_with_len}
use Rattle.packed.specs.Number.{little_endian}
use Rattle.packed.specs.Offsets.{part}
use Rattle.table_schema.specs.declared.table.TableId.{TableId}
use Rattle.table_schema.specs.Tables.{tables}
use Rattle.table_schema.specs.Columns.{columns_of, column_at}
use Rattle.schema.specs.Sizes.{Sizes, count_of, width_of}
use Rattle.schema.specs.Offsets.{cell_start}
use Rattle.schema.specs.LaidOut.{number_bytes, number_in, StandsAt}

-- the number of bytes of a cell
abbrev pub cell_width : Sizes → TableId → ℕ → ℕ
cell_width sizes table column = width_of sizes (column_at table column)

-- the number read at a cell's offset
abbrev pub number_at : List ℕ → Sizes → TableId → ℕ → ℕ → ℕ
number_at stream sizes table row column = little_endian (part stream (cell_start sizes table row column) (cell_width sizes table column))

-- the numbers read in a row, column by column
abbrev pub row_at : List ℕ → Sizes → TableId → ℕ → List ℕ
row_at stream sizes table row = map (number_at stream sizes table row) (range_with_len 0 (length (columns_of table)))

-- the numbers read in a table, row by row from 1
abbrev pub rows_at : List ℕ → Sizes → TableId → List (List ℕ)
rows_at stream sizes table = map (row_at stream sizes table) (range_with_len 1 (count_of sizes table))

-- the numbers read in all tables, in the order of the tables
unfoldable pub numbers_at : List ℕ → Sizes → List (List (List ℕ))
numbers_at stream sizes = map (rows_at stream sizes) tables

-- the number of a cell fits the width of its column, is encoded at the cell's offset, and is the number read there
pub record HoldsCell (stream : List ℕ) (sizes : Sizes) (numbers : List (List (List ℕ))) (table : TableId) (row column : ℕ) : Type 0 where
  pub fits : number_in numbers table row column < 256 ^ cell_width sizes table column
  pub stands : StandsAt stream (cell_start sizes table row column) (number_bytes (cell_width sizes table column) (number_in numbers table row column))
  pub read : number_at stream sizes table row column ≡ number_in numbers table row column
