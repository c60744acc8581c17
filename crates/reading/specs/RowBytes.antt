-- The bytes of some rows of a table (ECMA-335 II.24.2.6).
use Rattle.std.specs.Prelude.{◌≡◌, ℕ, ◌-◌, ◌*◌, ◌≤◌, ◌<◌, List, length}
use Rattle.table_schema.specs.declared.table.TableId.{TableId}
use Rattle.table_schema.specs.Columns.{columns_of}
use Rattle.schema.specs.Offsets.{row_width}
use Rattle.rows.specs.Cells.{number_in_rows}
use Rattle.metadata.specs.Source.{Source, number_of}

-- they are those of the rows from a first up to but not including another: the number of each cell is read at its offset
-- in them
pub record AreRowBytes (source : Source) (table : TableId) (first past : ℕ) (bytes : List ℕ) : Type 0 where
  pub len : length bytes ≡ (past - first) * row_width source.sizes table
  pub numbers : (row column : ℕ) → first ≤ row → row < past → column < length (columns_of table)
      → number_of source table row column ≡ number_in_rows bytes source.sizes table (row - first) column
