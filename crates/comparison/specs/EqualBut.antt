-- Two models that are equal but for the cells of some columns (ECMA-335 II.22 and II.24.2).
use Rattle.std.specs.Prelude.{◌≡◌, ◌<◌, ℕ, false}
use Rattle.table_schema.specs.declared.table.TableId.{TableId}
use Rattle.table_schema.specs.CellColumns.{cell_count}
use Rattle.metadata.specs.Metadata.{Metadata, cell_in, count_in}
use Rattle.metadata.specs.Lookups.{HasRow}
use Rattle.comparison.specs.declared.ignored.IgnoredColumns.{IgnoredColumns}
use Rattle.comparison.specs.Ignored.{is_ignored}

-- they have the same version, the same user strings and the same numbers of rows, and the same cells in each column that
-- is not ignored
pub record AreEqualBut (ignored : IgnoredColumns) (model other : Metadata) : Type 0 where
  pub version : model.version ≡ other.version
  pub user : model.user ≡ other.user
  pub counts : (table : TableId) → count_in model table ≡ count_in other table
  pub cells : (table : TableId) (row cell_index : ℕ) → HasRow model table row → cell_index < cell_count table → is_ignored ignored table cell_index ≡ false
      → cell_in model table row cell_index ≡ cell_in other table row cell_index
