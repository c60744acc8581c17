-- Uses of blobs, of which some are kept (ECMA-335 II.24.2.4).
use Rattle.std.specs.Prelude.{◌≡◌, ℕ, ◌^◌, ◌<◌, List, [], All, length, map, slice_index_or, Option, Some}
use Rattle.std.specs.List.{AllZip}
use Rattle.heap_pools.specs.Distinct.{distinct}
use Rattle.table_schema.specs.declared.column.ColumnKind.{ColumnKind}
use Rattle.cell_numbering.specs.declared.blob_use.BlobUse.{BlobUse}
use Rattle.cell_numbering.specs.declared.blob_uses.BlobUses.{BlobUses}

-- the use is in a column of a kind, and at an index of a heap
pub record IsAtIndex (found : BlobUse) (column : ColumnKind) (given : Option ℕ) : Type 0 where
  pub kind : found.kind ≡ column
  pub index : ℕ
  pub index_is : found.index ≡ Some index
  pub given_is : given ≡ Some index

-- the blob of a kept use
abbrev pub kept_blob : List (List ℕ) → ℕ → List ℕ
kept_blob kept number = slice_index_or kept number []

-- each use refers to a kept one, whose blob is its own; and the kept blobs are distinct like those of the uses
pub record ReferTo (kept : List (List ℕ)) (of_use : List ℕ) (blobs : List (List ℕ)) : Type 0 where
  pub low : All (λ number. number < length kept) of_use
  pub each : map (kept_blob kept) of_use ≡ blobs
  pub short : All (λ blob. length blob < 2 ^ 29) kept
  pub firsts : distinct kept ≡ distinct blobs

-- the kept uses are of some blobs, and each use refers to one with its blob
pub record AreBlobUses (IsUse : BlobUse → List ℕ → Type 0) (uses : BlobUses) (blobs : List (List ℕ)) : Type 0 where
  pub kept : List (List ℕ)
  pub each : AllZip IsUse uses.kept.items kept
  pub refer : ReferTo kept uses.of_use.items blobs
