use Rattle.embedding.proofs.Prelude.{◌≡◌, ◌<◌, ◌≤◌, ◌⊎◌, ℕ, raw_size, raw_offset}
use Rattle.embedding.proofs.slots.are_after.Given as goal

-- the sections before this one begin after the offset
abbrev pub invariant-loop-index : goal.invariant-loop-index
invariant-loop-index l = (k : ℕ) → k < l.index → (raw_size l.headers k ≡ 0) ⊎ (l.offset ≤ raw_offset l.headers k)
