use Rattle.cli_where.proofs.Prelude.{drop, map, Completes, seen, structure_line}
use Rattle.cli_where.proofs.structure_lines.print_structures.Given as goal

abbrev pub invariant-loop-structure : goal.invariant-loop-structure
invariant-loop-structure g l =
    Completes l.initial.out l.out (map structure_line (map seen (drop l.structure-index l.of))) (map structure_line (map seen l.of))
