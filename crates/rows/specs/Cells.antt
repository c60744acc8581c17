-- The cells of a table stream (ECMA-335 II.24.2.6), by table, row from 1 and column from 0.
use Rattle.std.specs.Prelude.{ℕ, ◌+◌, ◌-◌, ◌*◌, ◌≤◌, List, [], ◌++◌, length, take, slice_index_or}
use Rattle.packed.specs.Number.{little_endian}
use Rattle.packed.specs.Offsets.{part}
use Rattle.table_schema.specs.declared.table.TableId.{TableId}
use Rattle.table_schema.specs.Tables.{table_index_of, tables}
use Rattle.table_schema.specs.Columns.{columns_of}
use Rattle.schema.specs.Sizes.{Sizes}
use Rattle.schema.specs.Offsets.{offset_in_row, row_width, tables_end}
use Rattle.schema.specs.Cells.{cell_width}
use Rattle.schema.specs.LaidOut.{row_bytes, rows_bytes, tables_bytes}

-- the bytes of a table stream, and its sizes
pub record Stream : Type 0 where
  pub bytes : List ℕ
  pub sizes : Sizes

-- the tables end within the bytes
abbrev pub IsWhole : Stream → Type 0
IsWhole stream = tables_end stream.sizes ≤ length stream.bytes

-- the bytes of all cells before a cell: of the tables before its own, and the rows and columns before it in its table
abbrev pub bytes_before : Sizes → List (List (List ℕ)) → TableId → ℕ → ℕ → List ℕ
bytes_before sizes numbers table row column =
    let rows = slice_index_or numbers (table_index_of table) [] in
    tables_bytes sizes (take (table_index_of table) tables) numbers
    ++ rows_bytes sizes (columns_of table) (take (row - 1) rows)
    ++ row_bytes sizes (take column (columns_of table)) (slice_index_or rows (row - 1) [])

-- the number in a column of a row among the bytes of some rows of a table; the first of these rows is row 0
abbrev pub number_in_rows : List ℕ → Sizes → TableId → ℕ → ℕ → ℕ
number_in_rows bytes sizes table row column =
    little_endian (part bytes (row * row_width sizes table + offset_in_row sizes table column) (cell_width sizes table column))
