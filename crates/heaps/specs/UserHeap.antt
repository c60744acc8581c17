-- The heap of user strings that is written, `#US` (ECMA-335 II.24.2.4).
use Rattle.std.specs.Prelude.{◌<◌, ◌≤◌, ◌^◌, ◌⊎◌, ℕ, List, ◌++◌, length}
use Rattle.heaps.specs.declared.user_heap.UserHeap.TheInside.{Inside}
use Rattle.heaps.specs.FirstByte.{begun}
use Rattle.heaps.specs.UserEntries.{user_length, user_entry}

-- the bytes of the heap: those that were written, or the first byte 0 if nothing was written
abbrev pub user_heap_of : Inside → List ℕ
user_heap_of heap = begun heap.bytes.items

pub record IsUserHeap (heap : Inside) : Type 0 where
  pub fits : length (user_heap_of heap) ≤ 2 ^ 30

-- the user string is longer than a blob can be, or would make the heap longer than 2^30 bytes
abbrev pub IsPastLimit : List ℕ → List ℕ → Type 0
IsPastLimit heap units = (2 ^ 29 ≤ user_length units) ⊎ (2 ^ 30 < length (heap ++ user_entry units))
