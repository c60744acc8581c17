-- The numbers of cells, cell by cell, into heaps that are planned (ECMA-335 II.24.2.3 to II.24.2.6).
use Rattle.std.specs.Prelude.{ℕ, ◌+◌, ◌≤◌, Bool, true, false, List, [], ◌∷◌, ◌++◌, length, slice_index}
use Rattle.table_schema.specs.declared.column.Column.{Column}
use Rattle.table_schema.specs.declared.column.ColumnKind.{ColumnKind}
use Rattle.table_schema.specs.declared.table.TableId.{TableId}
use Rattle.table_schema.specs.Columns.{columns_of}
use Rattle.table_schema.specs.CellColumns.{is_padding}
use Rattle.metadata.specs.Cell.{Cell, Text, Bytes, Guid, Sig}
use Rattle.metadata.specs.Metadata.{Metadata, rows_of}
use Rattle.root_writer.specs.Pools.{Pools}
use Rattle.root_writer.specs.Numbers.{cell_number}
use Rattle.cell_numbering.specs.declared.numbers_so_far.Indexes.{Indexes}
use Rattle.cell_numbering.specs.declared.numbers_so_far.NumbersSoFar.TheInside.{Inside}

-- the numbers so far, and how many of them are of texts, of GUIDs and of blobs
pub record SoFar : Type 0 where
  pub texts : ℕ
  pub guids : ℕ
  pub blobs : ℕ
  pub numbers : List ℕ

-- the value of the program's numbers so far, and their invariant: each count is one of numbers
abbrev pub so_far_of : Inside → SoFar
so_far_of so_far = record { texts = so_far.texts; guids = so_far.guids; blobs = so_far.blobs; numbers = so_far.numbers.items }

pub record AreCounted (so_far : Inside) : Type 0 where
  pub texts : so_far.texts ≤ length so_far.numbers.items
  pub guids : so_far.guids ≤ length so_far.numbers.items
  pub blobs : so_far.blobs ≤ length so_far.numbers.items

-- before the first cell
abbrev pub none_numbered : SoFar
none_numbered = record { texts = 0; guids = 0; blobs = 0; numbers = [] }

-- the state with one more number
abbrev pub with_number : SoFar → ℕ → SoFar
with_number so_far number = record so_far { numbers = so_far.numbers ++ number ∷ [] }

-- the state with the number of the next text, GUID or blob: the next of the given indexes, or 0 if there are too few
abbrev pub with_text : List ℕ → SoFar → SoFar
with_text indexes so_far = record so_far { texts = so_far.texts + 1; numbers = so_far.numbers ++ slice_index indexes so_far.texts ∷ [] }

abbrev pub with_guid : List ℕ → SoFar → SoFar
with_guid indexes so_far = record so_far { guids = so_far.guids + 1; numbers = so_far.numbers ++ slice_index indexes so_far.guids ∷ [] }

abbrev pub with_blob : List ℕ → SoFar → SoFar
with_blob indexes so_far = record so_far { blobs = so_far.blobs + 1; numbers = so_far.numbers ++ slice_index indexes so_far.blobs ∷ [] }

-- pools without values
abbrev pub no_pools : Pools
no_pools = record { texts = []; blobs = []; guids = [] }

-- the state with the number of a cell: the next index into its heap, or the number of a cell that is in no heap
abbrev pub with_cell : Indexes → ColumnKind → Cell → SoFar → SoFar
with_cell indexes kind (Text text) so_far = with_text indexes.texts.now so_far
with_cell indexes kind (Guid guid) so_far = with_guid indexes.guids.now so_far
with_cell indexes kind (Bytes blob) so_far = with_blob indexes.blobs.now so_far
with_cell indexes kind (Sig signature) so_far = with_blob indexes.blobs.now so_far
with_cell indexes kind cell so_far = with_number so_far (cell_number no_pools kind cell)

-- the state with the numbers of the next cell and of the following ones; padding has no cell, and its number is 0
abbrev pub with_next_cell : Bool → (Cell → SoFar → SoFar) → (List Cell → SoFar → SoFar) → List Cell → SoFar → SoFar
with_next_cell true put tail cells so_far = tail cells (with_number so_far 0)
with_next_cell false put tail [] so_far = tail [] (with_number so_far 0)
with_next_cell false put tail (cell ∷ cells) so_far = tail cells (put cell so_far)

-- the state with the numbers of a row
abbrev pub with_row : Indexes → List Column → List Cell → SoFar → SoFar
with_row indexes [] cells so_far = so_far
with_row indexes (column ∷ columns) cells so_far = with_next_cell (is_padding column.kind) (with_cell indexes column.kind) (with_row indexes columns) cells so_far

-- the state with the numbers of all these rows
abbrev pub with_rows : Indexes → List Column → List (List Cell) → SoFar → SoFar
with_rows indexes columns [] so_far = so_far
with_rows indexes columns (row ∷ rows) so_far = with_rows indexes columns rows (with_row indexes columns row so_far)

-- the state with the numbers of all these tables
abbrev pub with_tables : Indexes → Metadata → List TableId → SoFar → SoFar
with_tables indexes model [] so_far = so_far
with_tables indexes model (table ∷ listed) so_far = with_tables indexes model listed (with_rows indexes (columns_of table) (rows_of model table) so_far)
