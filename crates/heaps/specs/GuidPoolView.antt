-- The value of a pool of GUIDs, and its invariant.
use Rattle.std.specs.Prelude.{◌≡◌, ◌≤◌, ◌^◌, ℕ, List, length, All}
use Rattle.heaps.specs.declared.guid_pool.GuidPool.TheInside.{Inside}

abbrev pub guids_of : Inside → List (List ℕ)
guids_of pool = pool.guids.keys

-- each entry has sixteen bytes, and the heap does not exceed its limit
pub record IsGuidPool (pool : Inside) : Type 0 where
  pub sixteen : All (λ guid. length guid ≡ 16) (guids_of pool)
  pub fits : length (guids_of pool) ≤ 2 ^ 26
