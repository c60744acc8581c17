-- Equal blobs of a heap (ECMA-335 II.24.2.4).
use Rattle.std.specs.Prelude.{◌≡◌, ℕ, ◌<◌, ◌≤◌, ◌+◌, ◌-◌, ◌⊎◌, List, length, slice_index}
use Rattle.heap_entries.specs.Entries.{IsBlob, IsCounted}
use Rattle.heaps.specs.declared.overlaps.Key.{Key}
use Rattle.heaps.specs.Windows.{window}

-- of two indexes that are not 0, the first one has the blob of the second one
pub record IsSameBlob (heap : List ℕ) (first second : ℕ) : Type 0 where
  pub first_in : 0 < first
  pub second_in : 0 < second
  pub same : (blob : List ℕ) → IsBlob heap second blob → IsBlob heap first blob

-- each use of an index has an earlier use of one with the same blob, or itself
abbrev pub AreEarlierBlobs : List ℕ → List ℕ → List ℕ → Type 0
AreEarlierBlobs heap indexes earlier = (k : ℕ) → k < length indexes
    → (slice_index earlier k ≡ k) ⊎ ((slice_index earlier k < k) × IsSameBlob heap (slice_index indexes (slice_index earlier k)) (slice_index indexes k))

-- a key has the length of the entry at an index, and the names of its first and its last window, which cover it
pub record IsKeyAt (heap : List ℕ) (width index : ℕ) (key : Key) : Type 0 where
  pub from : 0 < index
  pub within : index ≤ length heap
  pub entry : (blob : List ℕ) (counted : IsCounted heap index blob) → key.len ≡ length counted.count + length blob
  pub low : width ≤ key.len
  pub high : key.len ≤ width + width
  pub first : window heap width index ≡ window heap width key.first
  pub last : window heap width (index + (key.len - width)) ≡ window heap width key.last

-- the key is that of a use
pub record IsKey (heap indexes : List ℕ) (width : ℕ) (key : Key) : Type 0 where
  pub used : key.use_index < length indexes
  pub at : IsKeyAt heap width (slice_index indexes key.use_index) key
