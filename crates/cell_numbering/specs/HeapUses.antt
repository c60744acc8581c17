-- The values that cells use, in order of use, and their indexes (ECMA-335 II.24.2.3 to II.24.2.5).
use Rattle.std.specs.Prelude.{◌≡◌, ℕ, ◌^◌, ◌<◌, List, [], ◌∷◌, length, map, flat_map, Option, Some}
use Rattle.table_schema.specs.declared.column.ColumnKind.{ColumnKind}
use Rattle.table_schema.specs.declared.column.ColumnKind.TheVariants as kind
use Rattle.heap_pools.specs.BlobHeap.{blob_index}
use Rattle.heap_pools.specs.GuidHeap.{guid_index}
use Rattle.heap_pools.specs.TextHeap.{text_index}
use Rattle.sig_grammar.specs.Syntax.{Body}
use Rattle.sig_grammar.specs.Encodes.{Encodes, short}
use Rattle.metadata.specs.Cell.{Cell, Guid}
use Rattle.metadata.specs.Cell as cell
use Rattle.metadata.specs.Metadata.{Metadata}
use Rattle.metadata_source.specs.declared.signature_bytes.SignatureBytes.{SignatureBytes}
use Rattle.metadata_source.specs.declared.signature_bytes.SignatureBytes.TheVariants.{Stored, Canonical}
use Rattle.metadata_source.specs.SharedBlobs.{CellId, HasCell, IsBlobKind, cell_by_id, kind_by_id}
use Rattle.root_writer.specs.Pools.{texts_of, blobs_of, pools_of}
use Rattle.cell_numbering.specs.declared.blob_use.BlobUse.{BlobUse}
use Rattle.cell_numbering.specs.declared.heap_uses.HeapUses.{HeapUses}
use Rattle.cell_numbering.specs.declared.numbers_so_far.Indexes.{Indexes}
use Rattle.cell_numbering.specs.BlobUses.{AreBlobUses}
use Rattle.cell_numbering.specs.TextUses.{AreTextUses}

-- the cells of all tables, by table, row and column
abbrev pub all_cells : Metadata → List Cell
all_cells model = flat_map (flat_map (λ row. row)) model.tables

-- the GUID of a cell, or null
abbrev pub guid_of : Cell → List (Option (List ℕ))
guid_of (Guid guid) = guid ∷ []
guid_of _ = []

-- the cell has no value in a heap
abbrev pub IsInNoHeap : Cell → Type 0
IsInNoHeap (cell.Number number) = Unit {0}
IsInNoHeap (cell.Ref reference) = Unit {0}
IsInNoHeap (cell.Start start) = Unit {0}
IsInNoHeap _ = ⊥

-- the bytes that were found give the blob that is written: its own bytes, or the canonical encoding of the signature
-- that they encode (II.23.2)
abbrev pub GivesBlob : ColumnKind → SignatureBytes → List ℕ → Type 0
GivesBlob (kind.Signature column) (Stored bytes) blob = (signature : Body) × Encodes column signature bytes.now × (blob ≡ short signature)
GivesBlob column (Stored bytes) blob = blob ≡ bytes.now
GivesBlob column (Canonical bytes) blob = blob ≡ bytes.items

-- the use is one of the blob that is written
pub record IsUseOf (found : BlobUse) (blob : List ℕ) : Type 0 where
  pub gives : GivesBlob found.kind found.bytes blob
  pub short : length blob < 2 ^ 29

-- the index of the use is that of some cell with this blob, in a column of this kind
pub record IsIndexed (index_of : CellId → Option ℕ) (model : Metadata) (column : ColumnKind) (index : ℕ) (blob : List ℕ) : Type 0 where
  pub id : CellId
  pub there : HasCell model id
  pub blobs : IsBlobKind (kind_by_id id)
  pub kind : kind_by_id id ≡ column
  pub at : index_of id ≡ Some index
  pub has : blobs_of (cell_by_id model id) ≡ blob ∷ []

-- the use is one of the blob in a cell of the model
pub record IsUseIn (index_of : CellId → Option ℕ) (model : Metadata) (found : BlobUse) (blob : List ℕ) : Type 0 where
  pub of : IsUseOf found blob
  pub indexed : (index : ℕ) → found.index ≡ Some index → IsIndexed index_of model found.kind index blob

-- the uses are those of these cells of the model
pub record AreUsesIn (index_of : CellId → Option ℕ) (model : Metadata) (uses : HeapUses) (cells : List Cell) : Type 0 where
  pub texts : AreTextUses index_of model uses.texts (flat_map texts_of cells)
  pub guids : uses.guids.items ≡ flat_map guid_of cells
  pub blobs : AreBlobUses (IsUseIn index_of model) uses.blobs (flat_map blobs_of cells)

-- the indexes of the values that all cells use, into the heaps of the model's pools
pub record AreIndexes (model : Metadata) (indexes : Indexes) : Type 0 where
  pub texts : indexes.texts.now ≡ map (text_index (pools_of model).texts) (flat_map texts_of (all_cells model))
  pub guids : indexes.guids.now ≡ map (guid_index (pools_of model).guids) (flat_map guid_of (all_cells model))
  pub blobs : indexes.blobs.now ≡ map (blob_index (pools_of model).blobs) (flat_map blobs_of (all_cells model))
