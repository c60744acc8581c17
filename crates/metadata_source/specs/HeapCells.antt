-- Texts and blobs of cells, at indexes of the heap that they are read from (ECMA-335 II.24.2.3 and II.24.2.4).
use Rattle.std.specs.Prelude.{◌≡◌, ℕ, List, Option, Some}
use Rattle.heap_entries.specs.Entries.{IsText, IsBlob}
use Rattle.table_schema.specs.declared.column.ColumnKind.TheVariants as kind
use Rattle.metadata.specs.Cell.{Cell, Text, Bytes}
use Rattle.metadata.specs.Metadata.{Metadata}
use Rattle.metadata_source.specs.SharedBlobs.{CellId, HasCell, cell_by_id, kind_by_id}

-- the cell has an index, and its content is at this index of the heap
pub record IsInHeap (is_at : ℕ → List ℕ → Type 0) (as_cell : List ℕ → Cell) (index_of : CellId → Option ℕ) (model : Metadata) (id : CellId) : Type 0 where
  pub index : ℕ
  pub at : index_of id ≡ Some index
  pub content : List ℕ
  pub stands : is_at index content
  pub is : cell_by_id model id ≡ as_cell content

-- the heap has the text of each cell of the model in a column of texts
abbrev pub AreTextsIn : (CellId → Option ℕ) → List ℕ → Metadata → Type 0
AreTextsIn index_of heap model = (id : CellId) → HasCell model id → kind_by_id id ≡ kind.Text → IsInHeap (IsText heap) Text index_of model id

-- the heap has the blob of each cell of the model in a column of blobs
abbrev pub AreBlobsIn : (CellId → Option ℕ) → List ℕ → Metadata → Type 0
AreBlobsIn index_of heap model = (id : CellId) → HasCell model id → kind_by_id id ≡ kind.Blob → IsInHeap (IsBlob heap) Bytes index_of model id
