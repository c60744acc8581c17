use Rattle.file_ranges.proofs.Prelude.{◌<◌, ◌≤◌, ℕ, MethodDef, number_of, IsCodeApart}
use Rattle.file_ranges.proofs.occupied.are_bodies_apart.Given as goal

-- the bodies of the rows before this one are apart
abbrev pub invariant-loop-row : goal.invariant-loop-row
invariant-loop-row l =
    (k : ℕ) → 1 ≤ k → k < l.row → IsCodeApart l.header l.file l.lowest (number_of l.source.source MethodDef k 0) (number_of l.source.source MethodDef k 1)
