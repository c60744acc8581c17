-- The values in the header of a table stream (ECMA-335 II.24.2.6), whether or not the bytes are a table stream.
use Rattle.std.specs.Prelude.{ℕ, Bool, ◌/◌, ◌%◌, ◌^◌, ◌==◌, List, take, map, count_by, if◌then◌else◌, slice_index}
use Rattle.packed.specs.Number.{little_endian}
use Rattle.packed.specs.Offsets.{part}
use Rattle.table_schema.specs.declared.table.TableId.{TableId}
use Rattle.table_schema.specs.Tables.{table_number, table_index_of, tables}
use Rattle.schema.specs.Sizes.{Sizes, header_size}

-- HeapSizes (II.24.2.6)
abbrev pub heap_sizes_of : List ℕ → ℕ
heap_sizes_of stream = slice_index stream 6

-- Valid (II.24.2.6)
abbrev pub valid_of : List ℕ → ℕ
valid_of stream = little_endian (part stream 8 8)

-- Sorted (II.24.2.6)
abbrev pub sorted_of : List ℕ → ℕ
sorted_of stream = little_endian (part stream 16 8)

-- whether the bit of a table is set
abbrev pub has_bit : ℕ → TableId → Bool
has_bit bits table = bits / 2 ^ table_number table % 2 == 1

-- the offset of a table's row count, after those of tables with lower numbers
abbrev pub count_offset : ℕ → TableId → ℕ
count_offset valid table = header_size (count_by (has_bit valid) (take (table_index_of table) tables))

-- the number of rows of a table; it is 0 if Valid does not set the bit of the table
abbrev pub count_in : List ℕ → TableId → ℕ
count_in stream table = if has_bit (valid_of stream) table then little_endian (part stream (count_offset (valid_of stream) table) 4) else 0

-- the sizes that the header gives
abbrev pub sizes_of : List ℕ → Sizes
sizes_of stream = record {
  counts = map (count_in stream) tables;
  heap_sizes = heap_sizes_of stream;
  sorted = sorted_of stream;
  body = header_size (count_by (has_bit (valid_of stream)) tables);
}
