use Rattle.file_ranges.proofs.Prelude.{◌<◌, ℕ, IsSectionApart}
use Rattle.file_ranges.proofs.occupied.are_sections_apart.Given as goal

-- the sections before this one are apart
abbrev pub invariant-loop-index : goal.invariant-loop-index
invariant-loop-index l = (k : ℕ) → k < l.index → IsSectionApart l.header l.headers k
