use Rattle.comparison.proofs.Prelude.{flat_map, range_with_len, AreOutcomes, Extends, row_differences}
use Rattle.comparison.proofs.cells.find_in_table.Given as goal

abbrev pub invariant-loop-earlier : goal.invariant-loop-earlier
invariant-loop-earlier l = record {
  found : Extends l.comparison l.initial.progress.found.items l.progress
      (λ first second. flat_map (row_differences l.comparison.ignored.now first second l.table) (range_with_len 1 l.earlier));
  outcomes : AreOutcomes l.comparison.left.now l.comparison.right.now l.table l.progress.compared;
}
