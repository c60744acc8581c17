-- The location of a cell that a C caller receives (II.24.2.6).
use Rattle.std.specs.Prelude.{◌≡◌, ℕ, ◌+◌, ◌-◌, ◌<◌, ◌≤◌, List}
use Rattle.table_schema.specs.declared.table.TableId.{TableId}
use Rattle.table_schema.specs.Tables.{table_number}
use Rattle.table_schema.specs.CellColumns.{cell_count, column_of}
use Rattle.schema.specs.Sizes.{Sizes}
use Rattle.schema.specs.Cells.{cell_width}
use Rattle.schema.specs.Header.{sizes_of}
use Rattle.schema.specs.Offsets.{cell_start}
use Rattle.schema.specs.LocatedCells.{HasCell}
use Rattle.metadata.specs.SourceAt.{tables_in, tables_offset}
use Rattle.c_values.specs.declared.located.ClimLocation.{ClimLocation}

-- the sizes in the table stream of a root
abbrev pub sizes_in : List ℕ → Sizes
sizes_in root = sizes_of (tables_in root)

-- the byte at an offset of a root is one of this cell; rows count from 1, the cells of a row from 0
pub record HasByte (root : List ℕ) (table : TableId) (row column offset : ℕ) : Type 0 where
  pub column_there : column < cell_count table
  pub from : tables_offset root ≤ offset
  pub cell : HasCell (sizes_in root) table row (column_of table column) (offset - tables_offset root)

-- the location for C is the offset in the root and the size of a cell that has the byte, with its table, row and column
pub record IsLocation (root : List ℕ) (offset : ℕ) (reported : ClimLocation) : Type 0 where
  pub table : TableId
  pub number : table_number table ≡ reported.table
  pub has : HasByte root table reported.row reported.column offset
  pub start : reported.offset ≡ tables_offset root + cell_start (sizes_in root) table reported.row (column_of table reported.column)
  pub size : reported.size ≡ cell_width (sizes_in root) table (column_of table reported.column)
