use Rattle.file_ranges.proofs.Prelude.{◌<◌, ◌≤◌, ◌-◌, ℕ, parent}
use Rattle.file_ranges.proofs.class_sizes.are_parents_rising.Given as goal

-- Parents rise up to the row before this one
abbrev pub invariant-loop-layout : goal.invariant-loop-layout
invariant-loop-layout l = (k : ℕ) → 2 ≤ k → k < l.layout → parent l.source.source (k - 1) < parent l.source.source k
