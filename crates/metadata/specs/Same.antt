-- Two models with the same parts.
use Rattle.std.specs.Prelude.{◌≡◌, ℕ, ◌<◌, length}
use Rattle.table_schema.specs.declared.table.TableId.{TableId}
use Rattle.metadata.specs.Metadata.{Metadata, row_of, count_in, cell_in}
use Rattle.metadata.specs.Lookups.{HasRow}

-- they have the same version and user bytes, 38 tables with the same numbers of rows and cells, and the same cells
pub record SaysSame (model other : Metadata) : Type 0 where
  pub version : model.version ≡ other.version
  pub user : model.user ≡ other.user
  pub tables : length model.tables ≡ 38
  pub other_tables : length other.tables ≡ 38
  pub counts : (table : TableId) → count_in model table ≡ count_in other table
  pub long : (table : TableId) (row : ℕ) → HasRow model table row → length (row_of model table row) ≡ length (row_of other table row)
  pub cells : (table : TableId) (row cell_index : ℕ) → HasRow model table row → cell_index < length (row_of model table row)
      → cell_in model table row cell_index ≡ cell_in other table row cell_index
