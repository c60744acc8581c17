-- The number of bytes of texts that a budget counts (ECMA-335 II.22, II.24.2.3). Each cell counts.
use Rattle.std.specs.Prelude.{ℕ, zero, suc, ◌+◌, ◌-◌, ◌/◌, ◌%◌, List, [], ◌∷◌, length, take, drop, nat_eq, if◌then◌else◌}
use Rattle.std.specs.Str.{is_utf8}
use Rattle.table_schema.specs.declared.table.TableId.{TableId}
use Rattle.table_schema.specs.declared.column.ColumnKind.{ColumnKind}
use Rattle.table_schema.specs.declared.column.ColumnKind.TheVariants as kind
use Rattle.table_schema.specs.Columns.{columns_of, column_at}
use Rattle.metadata.specs.Source.{Source, rows_in, number_of}
use Rattle.metadata.specs.Rows.{table_at}
use Rattle.checks.specs.Signatures.{sum_below}

-- the number of bytes before the first NUL; of all bytes if there is none
abbrev pub bytes_before_nul : List ℕ → ℕ
bytes_before_nul [] = 0
bytes_before_nul (byte ∷ bytes) = if nat_eq byte 0 then 0 else suc (bytes_before_nul bytes)

-- the number of bytes of each of the at most 1024 parts of a heap
abbrev pub part_size : List ℕ → ℕ
part_size heap = length heap / 1024 + 1

-- the number of bytes from an index of `#Strings` up to a NUL or up to the end of its part of the heap; 0 at index 0
abbrev pub text_length : List ℕ → ℕ → ℕ
text_length heap zero = 0
text_length heap (suc before) = bytes_before_nul (take (part_size heap - suc before % part_size heap) (drop (suc before) heap))

-- what a number in a column of a kind counts: nothing if all of `#Strings` is UTF-8, since then no text is read
abbrev pub counted_text : Source → ColumnKind → ℕ → ℕ
counted_text source kind.Text number = if is_utf8 source.texts then 0 else text_length source.texts number
counted_text source _ number = 0

-- what a cell counts; a row, by the number of rows before it; the first rows of a table
unfoldable pub cell_text_bytes : Source → TableId → ℕ → ℕ → ℕ
cell_text_bytes source table row column = counted_text source (column_at table column).kind (number_of source table row column)

unfoldable pub row_text_bytes : Source → TableId → ℕ → ℕ
row_text_bytes source table before = sum_below (cell_text_bytes source table (before + 1)) (length (columns_of table))

abbrev pub rows_text_bytes : Source → TableId → ℕ → ℕ
rows_text_bytes source table rows = sum_below (row_text_bytes source table) rows

unfoldable pub table_text_bytes : Source → ℕ → ℕ
table_text_bytes source table_index = rows_text_bytes source (table_at table_index) (rows_in source (table_at table_index))

-- all tables; the tables before one, and the first rows of that one
unfoldable pub text_bytes : Source → ℕ
text_bytes source = sum_below (table_text_bytes source) 38

unfoldable pub text_bytes_to : Source → ℕ → ℕ → ℕ
text_bytes_to source table_index rows = sum_below (table_text_bytes source) table_index + rows_text_bytes source (table_at table_index) rows
