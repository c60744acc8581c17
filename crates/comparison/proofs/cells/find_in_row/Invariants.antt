use Rattle.comparison.proofs.Prelude.{flat_map, range_with_len, AreOutcomes, Extends, cell_difference}
use Rattle.comparison.proofs.cells.find_in_row.Given as goal

abbrev pub invariant-loop-index : goal.invariant-loop-index
invariant-loop-index l = record {
  found : Extends l.comparison l.initial.progress.found.items l.progress
      (λ first second. flat_map (cell_difference l.comparison.ignored.now first second l.table l.row) (range_with_len 0 l.index));
  outcomes : AreOutcomes l.comparison.left.now l.comparison.right.now l.table l.progress.compared;
}
