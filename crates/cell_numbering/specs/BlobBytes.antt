-- The bytes of blobs that are written (ECMA-335 II.24.2.4).
use Rattle.std.specs.Prelude.{◌≡◌, ℕ, ◌<◌, List, [], length, map, slice_index, slice_index_or}
use Rattle.heap_pools.specs.Ranking.{HasText, used_at}
use Rattle.cell_numbering.specs.declared.blob_bytes.BlobBytes.{BlobBytes}
use Rattle.cell_numbering.specs.declared.blob_bytes.BlobBytes.TheVariants.{Found, Encoded}

abbrev pub bytes_in : BlobBytes → List ℕ
bytes_in (Found bytes) = bytes.now
bytes_in (Encoded bytes) = bytes.items

-- the bytes of a use
abbrev pub bytes_at : List BlobBytes → ℕ → List ℕ
bytes_at bytes k = bytes_in (slice_index_or bytes k (Found (record { ref_ptr = (0, 0); now = [] })))

-- the blob of each use: the bytes of its first one
abbrev pub all_bytes : List BlobBytes → List ℕ → List (List ℕ)
all_bytes bytes firsts = map (bytes_at bytes) firsts

-- the first one of each use is an earlier one with its blob, or the use itself; if the blob is empty, it is the use itself
pub record AreWritten (bytes : List BlobBytes) (firsts : List ℕ) : Type 0 where
  pub len : length firsts ≡ length bytes
  pub each : (k : ℕ) → k < length firsts → HasText (all_bytes bytes firsts) k (slice_index firsts k)
  pub empty : (k : ℕ) → k < length firsts → length (used_at (all_bytes bytes firsts) k) ≡ 0 → slice_index firsts k ≡ k

-- the bytes of the first uses, and for each use a first one, which has its blob of these
pub record AreWrittenAs (bytes : List BlobBytes) (firsts : List ℕ) (blobs : List (List ℕ)) : Type 0 where
  pub written : AreWritten bytes firsts
  pub same : all_bytes bytes firsts ≡ blobs
