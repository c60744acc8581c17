-- How the cells of a model are read from the numbers and heaps of a metadata root.
use Rattle.std.specs.Prelude.{◌≡◌, ℕ, ◌≤◌, ◌<◌}
use Rattle.table_schema.specs.declared.table.TableId.{TableId}
use Rattle.metadata.specs.Metadata.{Metadata, count_in, cell_in}
use Rattle.metadata.specs.Source.{Source, rows_in}
use Rattle.table_schema.specs.CellColumns.{cell_count}
use Rattle.metadata.specs.Rows.{IsCell}

-- the cells of the source are those of the model
pub record IsReadFrom (source : Source) (model : Metadata) : Type 0 where
  pub count : (table : TableId) → count_in model table ≡ rows_in source table
  pub cells : (table : TableId) (row cell_index : ℕ) → 1 ≤ row → row ≤ rows_in source table → cell_index < cell_count table
      → IsCell source table row cell_index (cell_in model table row cell_index)

-- some model has the cells of the source (in the form of a double negation)
abbrev pub IsReadable : Source → Type 0
IsReadable source = ¬ (¬ ((model : Metadata) × IsReadFrom source model))
