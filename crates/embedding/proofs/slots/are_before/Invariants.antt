use Rattle.embedding.proofs.Prelude.{◌<◌, ◌≤◌, ℕ, address_end, raw_end, virtual_address}
use Rattle.embedding.proofs.slots.are_before.Given as goal

-- the sections before this one end before the last
abbrev pub invariant-loop-other : goal.invariant-loop-other
invariant-loop-other l =
    (k : ℕ) → k < l.other → (address_end l.headers k ≤ virtual_address l.headers l.index) × (raw_end l.headers k ≤ raw_end l.headers l.index)
