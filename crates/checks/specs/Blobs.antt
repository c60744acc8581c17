-- The blobs of a heap, and where short ones end within it for certain.
use Rattle.std.specs.Prelude.{◌≡◌, ℕ, ◌-◌, List, length, take}
use Rattle.checks.specs.declared.blobs.Blobs.TheInside.{Inside}

abbrev pub heap_of : Inside → List ℕ
heap_of blobs = blobs.heap.now

-- these bytes of the heap are followed by 127 others or more
abbrev pub IsNear : Inside → Type 0
IsNear blobs = blobs.near.now ≡ take (length blobs.heap.now - 127) blobs.heap.now
