use Rattle.file_ranges.proofs.Prelude.{◌<◌, ◌≤◌, ℕ, IsRowApart}
use Rattle.file_ranges.proofs.field_data.is_data_apart.Given as goal

-- the data of the rows before this one is apart
abbrev pub invariant-loop-row : goal.invariant-loop-row
invariant-loop-row l = (k : ℕ) → 1 ≤ k → k < l.row → IsRowApart l.header l.source.source k
