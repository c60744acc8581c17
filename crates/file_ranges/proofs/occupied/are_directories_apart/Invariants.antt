use Rattle.file_ranges.proofs.Prelude.{◌<◌, ℕ, IsDirectoryApart}
use Rattle.file_ranges.proofs.occupied.are_directories_apart.Given as goal

-- the directories before this one are apart
abbrev pub invariant-loop-index : goal.invariant-loop-index
invariant-loop-index l = (k : ℕ) → k < l.index → IsDirectoryApart l.header l.headers k
