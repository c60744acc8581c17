-- The sizes in the header of a table stream, and the widths of columns that follow from them (ECMA-335 II.24.2.6).
use Rattle.std.specs.Prelude.{◌≡◌, ◌⊎◌, ℕ, Bool, true, List, Option, Some, None, map, ◌+◌, ◌*◌, ◌^◌, ◌-◌, ◌/◌, ◌%◌, nat_lt, ◌==◌, if◌then◌else◌, slice_index, count_by}
use Rattle.std.specs.List.{list_all}
use Rattle.table_schema.specs.declared.table.TableId.{TableId}
use Rattle.table_schema.specs.declared.coded.Coded.{Coded}
use Rattle.table_schema.specs.declared.column.ColumnKind.{ColumnKind}
use Rattle.table_schema.specs.declared.column.ColumnKind.TheVariants as kind
use Rattle.table_schema.specs.declared.column.Column.{Column}
use Rattle.table_schema.specs.Tables.{table_number, table_index_of, tables}
use Rattle.table_schema.specs.CodedIndexes.{tables_of, tag_bits}

-- the number of rows of each table, in the order of the tables; HeapSizes; Sorted; the offset of the first table
pub record Sizes : Type 0 where
  pub counts : List ℕ
  pub heap_sizes : ℕ
  pub sorted : ℕ
  pub body : ℕ

-- the number of rows of a table
abbrev pub count_of : Sizes → TableId → ℕ
count_of sizes table = slice_index sizes.counts (table_index_of table)

-- both have the same number of rows of each table and the same HeapSizes; Sorted and `body` may differ
pub record SameCounts (sizes others : Sizes) : Type 0 where
  pub counts : (table : TableId) → count_of sizes table ≡ count_of others table
  pub heap_sizes : sizes.heap_sizes ≡ others.heap_sizes

-- the offset of the first table, after a header with `counted` row counts
abbrev pub header_size : ℕ → ℕ
header_size counted = 24 + 4 * counted

-- the sizes of tables with these row counts by table number: Valid names the tables with rows, and Sorted is 0
abbrev pub sizes_by_number : List ℕ → ℕ → Sizes
sizes_by_number counts heap_sizes = record {
  counts = map (λ table. slice_index counts (table_number table)) tables;
  heap_sizes = heap_sizes;
  sorted = 0;
  body = header_size (count_by (λ table. nat_lt 0 (slice_index counts (table_number table))) tables);
}

-- an index is two bytes wide if it is narrow, else four
abbrev pub narrow_or_wide : Bool → ℕ
narrow_or_wide narrow = if narrow then 2 else 4

-- an index into a heap is four bytes wide if the heap's bit of HeapSizes is set, else two
abbrev pub heap_width : Sizes → ℕ → ℕ
heap_width sizes bit = narrow_or_wide (sizes.heap_sizes / bit % 2 == 0)

-- an index into a table is two bytes wide if the table has fewer than 2^16 rows, else four
abbrev pub row_index_width : Sizes → TableId → ℕ
row_index_width sizes table = narrow_or_wide (nat_lt (count_of sizes table) (2 ^ 16))

-- whether a table has fewer rows than a limit; true for an unused tag
abbrev pub is_below : Sizes → ℕ → Option TableId → Bool
is_below sizes limit (Some table) = nat_lt (count_of sizes table) limit
is_below sizes limit None = true

-- a coded index is two bytes wide if the row numbers of all its tables fit in the bits beside the tag, else four
abbrev pub coded_width : Sizes → Coded → ℕ
coded_width sizes coded = narrow_or_wide (list_all (is_below sizes (2 ^ (16 - tag_bits coded))) (tables_of coded))

-- the number of bytes of a column of a kind
abbrev pub kind_width : Sizes → ColumnKind → ℕ
kind_width sizes kind.U8 = 1
kind_width sizes kind.Padding = 1
kind_width sizes kind.U16 = 2
kind_width sizes kind.U32 = 4
kind_width sizes kind.Text = heap_width sizes 1
kind_width sizes kind.Guid = heap_width sizes 2
kind_width sizes kind.Blob = heap_width sizes 4
kind_width sizes (kind.Signature signature) = heap_width sizes 4
kind_width sizes (kind.Row table) = row_index_width sizes table
kind_width sizes (kind.List table) = row_index_width sizes table
kind_width sizes (kind.Coded coded) = coded_width sizes coded

-- the number of bytes of a column
abbrev pub width_of : Sizes → Column → ℕ
width_of sizes column = kind_width sizes column.kind

-- one, two or four bytes
abbrev pub IsWidth : ℕ → Type 0
IsWidth width = (width ≡ 1) ⊎ ((width ≡ 2) ⊎ (width ≡ 4))
