-- Uses of equal blobs (ECMA-335 II.24.2.4).
use Rattle.std.specs.Prelude.{◌≡◌, ℕ, ◌<◌, ◌⊎◌, List, Some, length, slice_index, slice_index_or}
use Rattle.table_schema.specs.declared.column.ColumnKind.TheVariants as kind
use Rattle.cell_numbering.specs.declared.blob_use.BlobUse.{BlobUse}
use Rattle.cell_numbering.specs.HeapUses.{IsUseOf}

-- both uses are of one blob, which has bytes
abbrev pub IsSameUse : BlobUse → BlobUse → Type 0
IsSameUse earlier found = (blob other : List ℕ) → IsUseOf earlier blob → IsUseOf found other → (blob ≡ other) × (0 < length other)

-- for each use an earlier one of the same blob, or itself
abbrev pub AreEarlierUses : List BlobUse → List ℕ → Type 0
AreEarlierUses uses earlier = (k : ℕ) (d : BlobUse) → k < length uses → (slice_index earlier k ≡ k)
    ⊎ ((slice_index earlier k < k) × IsSameUse (slice_index_or uses (slice_index earlier k) d) (slice_index_or uses k d))

-- the use is in a column of blobs, at this index of the heap, and of a blob that has bytes
pub record IsPlainAt (found : BlobUse) (index : ℕ) : Type 0 where
  pub kind : found.kind ≡ kind.Blob
  pub at : found.index ≡ Some index
  pub bytes : List ℕ
  pub gives : (blob : List ℕ) → IsUseOf found blob → blob ≡ bytes
  pub some : 0 < length bytes
