-- Which row and which cell of a table stream has a byte (ECMA-335 II.22 and II.24.2.6). The offset of the byte counts from
-- the start of the stream.
use Rattle.std.specs.Prelude.{ℕ, ◌+◌, ◌<◌, ◌≤◌, length}
use Rattle.table_schema.specs.declared.table.TableId.{TableId}
use Rattle.table_schema.specs.Columns.{columns_of}
use Rattle.schema.specs.Sizes.{Sizes, count_of}
use Rattle.schema.specs.Offsets.{row_start, row_width, cell_start}
use Rattle.schema.specs.Cells.{cell_width}

-- the row is one of the table, and the byte is one of the row
pub record HasRow (sizes : Sizes) (table : TableId) (row offset : ℕ) : Type 0 where
  pub first : 1 ≤ row
  pub last : row ≤ count_of sizes table
  pub from : row_start sizes table row ≤ offset
  pub before : offset < row_start sizes table row + row_width sizes table

-- the cell is one of the table, and the byte is one of the cell; rows count from 1, columns from 0
pub record HasCell (sizes : Sizes) (table : TableId) (row column offset : ℕ) : Type 0 where
  pub first : 1 ≤ row
  pub last : row ≤ count_of sizes table
  pub listed : column < length (columns_of table)
  pub from : cell_start sizes table row column ≤ offset
  pub before : offset < cell_start sizes table row column + cell_width sizes table column
