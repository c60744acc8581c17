-- Starts of texts in groups, each of which has one start (ECMA-335 II.24.2.3).
use Rattle.std.specs.Prelude.{◌≡◌, ℕ, ◌<◌, List, All, length, map, slice_index}
use Rattle.heap_pools.specs.Distinct.{distinct}
use Rattle.heap_pools.specs.HeapTexts.{texts_at}

-- each use has a group, whose start is that of the use; and in each heap the texts of the groups are distinct like those
-- of the uses
pub record AreStartGroups (groups : List ℕ) (of_use : List ℕ) (starts : List ℕ) : Type 0 where
  pub low : All (λ group. group < length groups) of_use
  pub each : map (slice_index groups) of_use ≡ starts
  pub firsts : (heap : List ℕ) → distinct (texts_at heap groups) ≡ distinct (texts_at heap starts)
