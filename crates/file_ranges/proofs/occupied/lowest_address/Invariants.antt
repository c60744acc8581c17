use Rattle.file_ranges.proofs.Prelude.{◌<◌, ℕ, HasMetadata}
use Rattle.file_ranges.proofs.occupied.lowest_address.Given as goal

-- no section before this one has all of the metadata
abbrev pub invariant-loop-index : goal.invariant-loop-index
invariant-loop-index l = (k : ℕ) → k < l.index → ¬ HasMetadata l.header l.headers k
