-- The number of bytes of all signature blobs of a metadata root (ECMA-335 II.22, II.24.2.4). Each cell counts.
use Rattle.std.specs.Prelude.{ℕ, zero, suc, ◌+◌, List, length, drop, nat_le, if◌then◌else◌}
use Rattle.std.specs.Option.{option_map_or}
use Rattle.packed.specs.Prefix.{unsigned_at}
use Rattle.table_schema.specs.declared.table.TableId.{TableId}
use Rattle.table_schema.specs.declared.column.ColumnKind.{ColumnKind}
use Rattle.table_schema.specs.declared.column.ColumnKind.TheVariants as kind
use Rattle.table_schema.specs.Columns.{columns_of, column_at}
use Rattle.metadata.specs.Source.{Source, rows_in, number_of}
use Rattle.metadata.specs.Rows.{table_at}

-- the length at the start of the bytes, if that number of bytes follows it, else 0
unfoldable pub counted_length : List ℕ → ℕ
counted_length bytes = option_map_or (λ read. if nat_le (read.1 + read.0) (length bytes) then read.0 else 0) (unsigned_at bytes) 0

-- the number of bytes of the blob at an index of `#Blob`; 0 if there is no blob
abbrev pub blob_length : List ℕ → ℕ → ℕ
blob_length heap zero = 0
blob_length heap (suc before) = counted_length (drop (suc before) heap)

-- the number of bytes of the blob of a number in a column of a kind; 0 if the column is not of signatures
abbrev pub encoding_length : Source → ColumnKind → ℕ → ℕ
encoding_length source (kind.Signature column) number = blob_length source.blobs number
encoding_length source _ number = 0

-- the sum of f at the numbers below n
unfoldable pub sum_below : (ℕ → ℕ) → ℕ → ℕ
sum_below f zero = 0
sum_below f (suc n) = sum_below f n + f n

-- the bytes of a cell, by the number of rows before it; of a column, over its rows; of a table, over its columns
unfoldable pub cell_bytes : Source → TableId → ℕ → ℕ → ℕ
cell_bytes source table column before = encoding_length source (column_at table column).kind (number_of source table (before + 1) column)

unfoldable pub column_bytes : Source → TableId → ℕ → ℕ
column_bytes source table column = sum_below (cell_bytes source table column) (rows_in source table)

unfoldable pub table_bytes : Source → TableId → ℕ
table_bytes source table = sum_below (column_bytes source table) (length (columns_of table))

unfoldable pub table_bytes_at : Source → ℕ → ℕ
table_bytes_at source table_index = table_bytes source (table_at table_index)

-- the bytes of all tables
unfoldable pub signature_bytes : Source → ℕ
signature_bytes source = sum_below (table_bytes_at source) 38
