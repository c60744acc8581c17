-- Texts that are equal at indexes of two strings heaps (ECMA-335 II.24.2.3).
use Rattle.std.specs.Prelude.{◌≡◌, ◌+◌, ◌<◌, ℕ, List}
use Rattle.heap_pools.specs.HeapTexts.{heap_text}

-- two heaps have the same texts at this number of indexes, from one on in each
abbrev pub AreSameTexts : List ℕ → List ℕ → ℕ → ℕ → ℕ → Type 0
AreSameTexts left right from to count = (k : ℕ) → k < count → heap_text left (from + k) ≡ heap_text right (to + k)
