-- Names of windows, by which equal blobs are found (ECMA-335 II.24.2.4).
use Rattle.std.specs.Prelude.{◌≡◌, ℕ, List}
use Rattle.heap_entries.specs.Entries.{IsBlob}
use Rattle.heaps.specs.Windows.{AreNames}
use Rattle.comparison.specs.declared.blob_names.BlobNames.{BlobNames}

-- they are the names of the windows of a heap
abbrev pub AreBlobNames : List ℕ → BlobNames → Type 0
AreBlobNames heap blobs = AreNames heap blobs.windows.width blobs.windows.names.items

-- the blobs at indexes of two heaps are equal
abbrev pub AreSameBlobs : List ℕ → List ℕ → ℕ → ℕ → Type 0
AreSameBlobs left right m n = (blob other : List ℕ) → IsBlob left m blob → IsBlob right n other → blob ≡ other
