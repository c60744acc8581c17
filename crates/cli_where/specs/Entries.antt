-- The heap entries that have a byte, and the cells that name them (ECMA-335 II.22 and II.24.2.3 to II.24.2.5).
use Rattle.std.specs.Prelude.{◌≡◌, ℕ, zero, suc, ◌+◌, ◌-◌, ◌*◌, ◌<◌, ◌⊎◌, true, List, [], ◌∷◌, length, map, Option, None, Some, option_map, unwrap_or}
use Rattle.std.specs.List.{flat_map, range_with_len}
use Rattle.cli_where.specs.Words.{Kind, Strings, Guids, Blobs, RootRead, range_of, stream_of, IsCounted, IsEnded, IsGuidEntry, TableId, tables, columns_of, Sizes, count_of, number_at, TableCell, Region, entry, has_byte, kind_of}
use Rattle.table_schema.specs.declared.column.ColumnKind.{ColumnKind}
use Rattle.table_schema.specs.declared.column.ColumnKind.TheVariants as kind

-- a heap: its bytes, and the offset of the first one in the file
pub record Heap : Type 0 where
  pub bytes : List ℕ
  pub start : ℕ

-- the heaps that cells index
pub record Heaps : Type 0 where
  pub texts : Heap
  pub guids : Heap
  pub blobs : Heap

-- a stream of a root at an offset of the file, as a heap; it has no bytes if no header names it
abbrev pub heap_at : ℕ → RootRead → Kind → Heap
heap_at start root kind = record {
  bytes = unwrap_or (stream_of root kind) [];
  start = start + unwrap_or (option_map (λ offset. offset.0) (range_of root kind)) 0;
}

abbrev pub heaps_at : ℕ → RootRead → Heaps
heaps_at start root = record { texts = heap_at start root Strings; guids = heap_at start root Guids; blobs = heap_at start root Blobs }

-- II.24.2.3: an index names the string at this offset of the file, with this number of bytes, its NUL included. Index 0
-- is the empty string of no entry.
pub record IsStringAt (heap : Heap) (index start size : ℕ) : Type 0 where
  pub some : 0 < index
  pub text : List ℕ
  pub stands : IsEnded heap.bytes index text
  pub from : start ≡ heap.start + index
  pub long : size ≡ length text + 1

-- II.24.2.5: an index names the GUID at this offset of the file, with sixteen bytes. Index 0 is null.
pub record IsGuidAt (heap : Heap) (index start size : ℕ) : Type 0 where
  pub some : 0 < index
  pub guid : List ℕ
  pub stands : IsGuidEntry heap.bytes index guid
  pub from : start ≡ heap.start + 16 * (index - 1)
  pub long : size ≡ 16

-- II.24.2.4: an index names the blob at this offset of the file, with this number of bytes, those of its packed length
-- included. Index 0 is the empty blob of no entry.
pub record IsBlobAt (heap : Heap) (index start size : ℕ) : Type 0 where
  pub some : 0 < index
  pub blob : List ℕ
  pub stands : IsCounted heap.bytes index blob
  pub from : start ≡ heap.start + index
  pub long : size ≡ length stands.count + length blob

-- the entry that an index in a column of a kind names; the other columns index no heap
abbrev pub IsNamed : Heaps → ColumnKind → ℕ → ℕ → ℕ → Type 0
IsNamed heaps kind.Text index start size = IsStringAt heaps.texts index start size
IsNamed heaps kind.Guid index start size = IsGuidAt heaps.guids index start size
IsNamed heaps kind.Blob index start size = IsBlobAt heaps.blobs index start size
IsNamed heaps (kind.Signature signature) index start size = IsBlobAt heaps.blobs index start size
IsNamed heaps _ index start size = ⊥

-- the heap that a column of a kind indexes
abbrev pub heap_named : ColumnKind → Kind
heap_named kind.Text = Strings
heap_named kind.Guid = Guids
heap_named _ = Blobs

-- the number in a cell of a table stream names an entry
abbrev pub IsNamedBy : Heaps → List ℕ → Sizes → TableCell → ℕ → ℕ → Type 0
IsNamedBy heaps stream sizes cell start size = IsNamed heaps (kind_of cell) (number_at stream sizes cell.table cell.row cell.column) start size

-- the entry that a cell names and that contains the byte at an offset of the file; or the cell names no entry that contains it
abbrev pub IsEntryOf : Heaps → List ℕ → Sizes → ℕ → TableCell → Option Region → Type 0
IsEntryOf heaps stream sizes offset cell None = (start size : ℕ) → IsNamedBy heaps stream sizes cell start size → has_byte start size offset ≡ true → ⊥
IsEntryOf heaps stream sizes offset cell (Some of) =
    IsNamedBy heaps stream sizes cell of.start of.size × (has_byte of.start of.size offset ≡ true) × (of.what ≡ entry (heap_named (kind_of cell)) cell)

-- the cells of a row, column by column
abbrev pub cell_of : TableId → ℕ → ℕ → TableCell
cell_of table row column = record { table = table; row = row; column = column }

abbrev pub row_cells : TableId → ℕ → List TableCell
row_cells table row = map (cell_of table row) (range_with_len 0 (length (columns_of table)))

-- the cells of a table, row by row from 1
abbrev pub table_cells : Sizes → TableId → List TableCell
table_cells sizes table = flat_map (row_cells table) (range_with_len 1 (count_of sizes table))

-- all cells, table by table
unfoldable pub all_cells : Sizes → List TableCell
all_cells sizes = flat_map (table_cells sizes) tables

-- of these cells the first ones that name an entry, at most this number, name these entries
abbrev pub AreFirst : (TableCell → Option Region → Type 0) → ℕ → List TableCell → List Region → Type 0
AreFirst IsOf zero cells found = found ≡ []
AreFirst IsOf (suc most) [] found = found ≡ []
AreFirst IsOf (suc most) (cell ∷ cells) [] = IsOf cell None × AreFirst IsOf (suc most) cells []
AreFirst IsOf (suc most) (cell ∷ cells) (first ∷ later) =
    (IsOf cell (Some first) × AreFirst IsOf most cells later) ⊎ (IsOf cell None × AreFirst IsOf (suc most) cells (first ∷ later))

-- the entries that contain the byte at an offset of the file: those of the first ten cells that name one
abbrev pub AreEntriesAt : Heaps → List ℕ → Sizes → ℕ → List Region → Type 0
AreEntriesAt heaps stream sizes offset found = AreFirst (IsEntryOf heaps stream sizes offset) 10 (all_cells sizes) found
