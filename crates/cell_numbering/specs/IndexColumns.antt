-- Columns whose numbers are the indexes of values in heaps (ECMA-335 II.24.2.6).
use Rattle.std.specs.Prelude.{◌≡◌, ℕ, ◌<◌, List, Option, None, IfSome, length, slice_index_or}
use Rattle.table_schema.specs.declared.table.TableId.{TableId}
use Rattle.table_schema.specs.CellColumns.{cell_count}
use Rattle.rows.specs.Columns.{ColumnBytes}
use Rattle.metadata_source.specs.ColumnNumbers.{AreIndexesIn}
use Rattle.metadata_source.specs.SharedBlobs.{CellId}

-- for each cell of a table's rows no numbers, or the indexes of the values in all rows
pub record AreIndexColumns (index_of : CellId → Option ℕ) (count : ℕ) (table : TableId) (columns : List (Option ColumnBytes)) : Type 0 where
  pub len : length columns ≡ cell_count table
  pub counts : (k : ℕ) → k < cell_count table → IfSome (slice_index_or columns k None) (λ numbers. numbers.count ≡ count)
  pub indexes : (k : ℕ) → k < cell_count table → IfSome (slice_index_or columns k None) (AreIndexesIn index_of table k count)
