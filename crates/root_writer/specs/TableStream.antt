-- The canonical table stream of a model (ECMA-335 II.24.2.6).
use Rattle.std.specs.Prelude.{ℕ, ◌+◌, ◌^◌, Bool, true, false, ◌&&◌, nat_lt, nat_le, if◌then◌else◌, List, [], ◌∷◌, ◌++◌, map, length, count_by, slice_index, Option, Some, None}
use Rattle.table_schema.specs.declared.table.TableId.{TableId}
use Rattle.table_schema.specs.Tables.{tables}
use Rattle.table_schema.specs.Columns.{columns_of, key_of}
use Rattle.schema.specs.Sizes.{Sizes, header_size}
use Rattle.schema.specs.LaidOut.{number_bytes, tables_bytes, bits_of, counts_bytes}
use Rattle.heap_entries.specs.Padding.{zero_padded}
use Rattle.metadata.specs.Metadata.{Metadata, rows_of, count_in}
use Rattle.metadata.specs.KeyOrder.{key_number}
use Rattle.root_writer.specs.Pools.{texts_stream, blobs_stream, guids_stream}
use Rattle.root_writer.specs.Numbers.{numbers_by, numbers}

-- the table has at least one row
abbrev pub has_rows : Metadata → TableId → Bool
has_rows model table = nat_lt 0 (count_in model table)

-- the bit of a heap in HeapSizes: set if its stream has 65536 bytes or more, and then its indexes have four bytes
abbrev pub wide_bit : List ℕ → ℕ → ℕ
wide_bit stream bit = if nat_le (2 ^ 16) (length stream) then bit else 0

-- the numbers never decrease
abbrev pub rises : List ℕ → Bool
rises [] = true
rises (first ∷ []) = true
rises (first ∷ second ∷ tail) = nat_le first second && rises (second ∷ tail)

-- the rows are in order of the key in this column, if there is a key
abbrev pub is_by_key : List (List ℕ) → Option ℕ → Bool
is_by_key rows None = false
is_by_key rows (Some key) = rises (map (λ row. slice_index row key) rows)

-- the rows of a table as key numbers, each in the column of its cell (II.22)
abbrev pub table_keys : Metadata → TableId → List (List ℕ)
table_keys model table = map (numbers_by key_number (columns_of table)) (rows_of model table)

-- the table has a key, and its rows are in order of the key (II.22)
abbrev pub is_sorted : Metadata → TableId → Bool
is_sorted model table = is_by_key (table_keys model table) (key_of table)

-- the row counts, HeapSizes, Sorted, and the offset of the first table, after the counts of the tables that have rows
unfoldable pub sizes_of : Metadata → Sizes
sizes_of model = record {
  counts = map (count_in model) tables;
  heap_sizes = wide_bit (texts_stream model) 1 + wide_bit (guids_stream model) 2 + wide_bit (blobs_stream model) 4;
  sorted = bits_of (is_sorted model) tables;
  body = header_size (count_by (has_rows model) tables);
}

-- Reserved 0, MajorVersion 2, MinorVersion 0, HeapSizes, Reserved 1, Valid, Sorted and Rows
unfoldable pub header_bytes : Metadata → List ℕ
header_bytes model =
    (0 ∷ 0 ∷ 0 ∷ 0 ∷ []) ++ (2 ∷ 0 ∷ (sizes_of model).heap_sizes ∷ 1 ∷ []) ++ number_bytes 8 (bits_of (has_rows model) tables)
    ++ number_bytes 8 (sizes_of model).sorted ++ counts_bytes (has_rows model) (sizes_of model) tables

-- the header and the rows of all tables; a number that is too great for its column is truncated to its low bytes
unfoldable pub table_stream : Metadata → List ℕ
table_stream model = zero_padded (header_bytes model ++ tables_bytes (sizes_of model) tables (numbers model))
