-- The columns of a table that have cells: all but the padding of Constant (ECMA-335 II.22.9).
use Rattle.std.specs.Prelude.{ℕ, ◌+◌, Bool, true, false, List, [], ◌∷◌, length, slice_index, if◌then◌else◌}
use Rattle.table_schema.specs.declared.table.TableId.{TableId}
use Rattle.table_schema.specs.declared.column.Column.{Column}
use Rattle.table_schema.specs.declared.column.ColumnKind.{ColumnKind}
use Rattle.table_schema.specs.declared.column.ColumnKind.TheVariants as kind
use Rattle.table_schema.specs.Columns.{columns_of}

-- whether a column is padding, which has no cell
abbrev pub is_padding : ColumnKind → Bool
is_padding kind.Padding = true
is_padding _ = false

-- the indexes of the columns that have a cell, if the first column has index `index`
abbrev pub indexes_from : ℕ → List Column → List ℕ
indexes_from index [] = []
indexes_from index (column ∷ columns) = if is_padding column.kind then indexes_from (index + 1) columns else index ∷ indexes_from (index + 1) columns

-- the indexes of the columns of a table that have a cell
unfoldable pub cell_columns : TableId → List ℕ
cell_columns table = indexes_from 0 (columns_of table)

-- the number of cells of a row
abbrev pub cell_count : TableId → ℕ
cell_count table = length (cell_columns table)

-- the column of a cell
abbrev pub column_of : TableId → ℕ → ℕ
column_of table cell = slice_index (cell_columns table) cell
