use Rattle.cli_roots.proofs.Prelude.{◌≡◌, drop, map, Metadata, IsModel, Completes, difference_line}
use Rattle.cli_roots.proofs.differences.print_differences.Given as goal

abbrev pub invariant-loop-difference : goal.invariant-loop-difference
invariant-loop-difference g l = record {
  one : l.one ≡ l.left;
  other : l.other ≡ l.right;
  lines : (model other : Metadata) → IsModel l.left model → IsModel l.right other
      → Completes l.initial.out l.out (map (difference_line model other) (drop l.difference-index l.found)) (map (difference_line model other) l.found);
}
