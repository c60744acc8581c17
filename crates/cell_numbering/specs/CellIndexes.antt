-- The cells of a row that are left, by its columns (ECMA-335 II.22).
use Rattle.std.specs.Prelude.{◌≡◌, ℕ, drop}
use Rattle.table_schema.specs.declared.table.TableId.{TableId}
use Rattle.table_schema.specs.Columns.{columns_of}
use Rattle.table_schema.specs.CellColumns.{indexes_from, cell_columns}

-- the cells from index `cell_index` on are those of the columns from `index` on
abbrev pub IsCellIndexOf : TableId → ℕ → ℕ → Type 0
IsCellIndexOf table index cell_index = drop cell_index (cell_columns table) ≡ indexes_from index (drop index (columns_of table))
