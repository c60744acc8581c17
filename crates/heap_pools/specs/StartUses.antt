-- The starts of texts in a strings heap, with the use indexes of the texts.
use Rattle.std.specs.Prelude.{◌≡◌, ℕ, ◌<◌, List, length, slice_index, slice_index_or}
use Rattle.heap_pools.specs.declared.heap_texts.StartUse.{StartUse}

abbrev pub start_use_at : List StartUse → ℕ → StartUse
start_use_at start_uses k = slice_index_or start_uses k (record { start = 0; use_index = 0 })

abbrev pub start_at : List StartUse → ℕ → ℕ
start_at start_uses k = (start_use_at start_uses k).start

abbrev pub index_at : List StartUse → ℕ → ℕ
index_at start_uses k = (start_use_at start_uses k).use_index

-- the start_uses have the start at each use index
pub record AreStartUses (starts : List ℕ) (start_uses : List StartUse) : Type 0 where
  pub within : (k : ℕ) → k < length start_uses → (start_use_at start_uses k).use_index < length starts
  pub start : (k : ℕ) → k < length start_uses → (start_use_at start_uses k).start ≡ slice_index starts (start_use_at start_uses k).use_index
  pub all : (use_index : ℕ) → use_index < length starts → (k : ℕ) × (k < length start_uses) × ((start_use_at start_uses k).use_index ≡ use_index)
