-- The offsets of tables, rows and cells in a table stream (ECMA-335 II.24.2.6). Each follows the one before it.
use Rattle.std.specs.Prelude.{ℕ, List, take, ◌+◌, ◌*◌, ◌-◌, sum_by}
use Rattle.table_schema.specs.declared.table.TableId.{TableId}
use Rattle.table_schema.specs.declared.column.Column.{Column}
use Rattle.table_schema.specs.Tables.{table_index_of, tables}
use Rattle.table_schema.specs.Columns.{columns_of}
use Rattle.schema.specs.Sizes.{Sizes, count_of, width_of}

-- the number of bytes of these columns in a row
unfoldable pub columns_width : Sizes → List Column → ℕ
columns_width sizes columns = sum_by (width_of sizes) columns

-- the number of bytes of a row
abbrev pub row_width : Sizes → TableId → ℕ
row_width sizes table = columns_width sizes (columns_of table)

-- the number of bytes of all rows of a table
abbrev pub table_size : Sizes → TableId → ℕ
table_size sizes table = count_of sizes table * row_width sizes table

-- the number of bytes of these tables
unfoldable pub tables_size : Sizes → List TableId → ℕ
tables_size sizes listed = sum_by (table_size sizes) listed

-- the offset of a column in its row
abbrev pub offset_in_row : Sizes → TableId → ℕ → ℕ
offset_in_row sizes table column = columns_width sizes (take column (columns_of table))

-- the offset of a table in the stream
abbrev pub table_start : Sizes → TableId → ℕ
table_start sizes table = sizes.body + tables_size sizes (take (table_index_of table) tables)

-- the offset of the end of the last table
abbrev pub tables_end : Sizes → ℕ
tables_end sizes = sizes.body + tables_size sizes tables

-- the offset of a row; rows are counted from 1
abbrev pub row_start : Sizes → TableId → ℕ → ℕ
row_start sizes table row = table_start sizes table + (row - 1) * row_width sizes table

-- the offset of a cell
abbrev pub cell_start : Sizes → TableId → ℕ → ℕ → ℕ
cell_start sizes table row column = row_start sizes table row + offset_in_row sizes table column
