-- The value of a pool of blobs, and its invariant.
use Rattle.std.specs.Prelude.{◌≡◌, ◌≤◌, ◌+◌, ◌^◌, ℕ, List, [], ◌∷◌, length, map}
use Rattle.indexmap.specs.IndexMap.{keys, values}
use Rattle.heaps.specs.declared.blob_pool.BlobPool.TheInside.{Inside}
use Rattle.heap_pools.specs.BlobHeap.{blob_heap, counted}

-- the entries: the keys of the map, in order
abbrev pub blobs_of : Inside → List (List ℕ)
blobs_of pool = map (λ key. key.items) (keys pool.indexes)

-- the offset of each entry, if the first one is at `at`
abbrev pub starts_from : ℕ → List (List ℕ) → List ℕ
starts_from at [] = []
starts_from at (entry ∷ entries) = at ∷ starts_from (at + length (counted entry)) entries

-- the heap has these entries, and the map has the offset of each
pub record IsBlobPool (pool : Inside) : Type 0 where
  pub whole : pool.heap.items ≡ blob_heap (blobs_of pool)
  pub fits : length pool.heap.items ≤ 2 ^ 30
  pub starts : values pool.indexes ≡ starts_from 1 (blobs_of pool)
