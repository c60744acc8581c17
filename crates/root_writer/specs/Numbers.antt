-- The numbers that encode the cells of a model (ECMA-335 II.22 and II.24.2.6).
use Rattle.std.specs.Prelude.{ℕ, Bool, true, false, List, [], ◌∷◌, map, Some, None}
use Rattle.table_schema.specs.declared.table.TableId.{TableId}
use Rattle.table_schema.specs.declared.column.Column.{Column}
use Rattle.table_schema.specs.declared.column.ColumnKind.{ColumnKind}
use Rattle.table_schema.specs.Tables.{tables}
use Rattle.table_schema.specs.Columns.{columns_of}
use Rattle.heap_pools.specs.TextHeap.{text_index}
use Rattle.heap_pools.specs.BlobHeap.{blob_index}
use Rattle.heap_pools.specs.GuidHeap.{guid_index}
use Rattle.sig_grammar.specs.Encodes.{short}
use Rattle.metadata.specs.Cell.{Cell, Number, Text, Bytes, Guid, Ref, Start, Sig}
use Rattle.metadata.specs.Metadata.{Metadata, rows_of}
use Rattle.metadata.specs.KeyOrder.{row_number}
use Rattle.table_schema.specs.CellColumns.{is_padding}
use Rattle.root_writer.specs.Pools.{Pools, pools_of}

-- the number of a cell: the index of a heap value, the number of a row, or the start itself; a null reference is 0
abbrev pub cell_number : Pools → ColumnKind → Cell → ℕ
cell_number pools kind (Number number) = number
cell_number pools kind (Text text) = text_index pools.texts text
cell_number pools kind (Bytes blob) = blob_index pools.blobs blob
cell_number pools kind (Guid guid) = guid_index pools.guids guid
cell_number pools kind (Ref None) = 0
cell_number pools kind (Ref (Some token)) = row_number kind token
cell_number pools kind (Start start) = start
cell_number pools kind (Sig signature) = blob_index pools.blobs (short signature)

-- the number of the next cell, and the numbers of the following ones; padding has no cell, and its number is 0
abbrev pub with_next : Bool → (Cell → ℕ) → (List Cell → List ℕ) → List Cell → List ℕ
with_next true number tail cells = 0 ∷ tail cells
with_next false number tail [] = 0 ∷ tail []
with_next false number tail (cell ∷ cells) = number cell ∷ tail cells

-- the numbers of a row, one per column; `number` gives the number of a cell in a column of a kind
abbrev pub numbers_by : (ColumnKind → Cell → ℕ) → List Column → List Cell → List ℕ
numbers_by number [] cells = []
numbers_by number (column ∷ columns) cells = with_next (is_padding column.kind) (number column.kind) (numbers_by number columns) cells

-- the numbers of a row that are written
abbrev pub numbers_of : Pools → List Column → List Cell → List ℕ
numbers_of pools columns cells = numbers_by (cell_number pools) columns cells

-- the numbers of a table, by row and column
abbrev pub table_numbers : Metadata → TableId → List (List ℕ)
table_numbers model table = map (numbers_of (pools_of model) (columns_of table)) (rows_of model table)

-- the numbers of all tables, in order of table number
unfoldable pub numbers : Metadata → List (List (List ℕ))
numbers model = map (table_numbers model) tables
