use Rattle.file_ranges.proofs.Prelude.{◌<◌, ◌≤◌, ◌+◌, ◌-◌, ℕ, ClassLayout, rows_in, MayHaveLayout}
use Rattle.file_ranges.proofs.class_sizes.layout_of.Given as goal

-- the row of the type is one of those that are left
abbrev pub invariant-loop-first : goal.invariant-loop-first
invariant-loop-first l = record {
  from : 1 ≤ l.first;
  ordered : l.first ≤ l.past;
  to : l.past ≤ rows_in l.source.source ClassLayout + 1;
  left : (layout : ℕ) → MayHaveLayout l.source.source l.row layout → (l.first ≤ layout) × (layout < l.past);
}

abbrev pub decreases-loop-first : goal.decreases-loop-first
decreases-loop-first l = l.past - l.first
