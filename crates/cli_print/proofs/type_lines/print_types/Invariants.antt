use Rattle.cli_print.proofs.Prelude.{◌≡◌, map, range_with_len, Metadata, IsModel, Prints, type_line}
use Rattle.cli_print.proofs.type_lines.print_types.Given as goal

abbrev pub invariant-loop-earlier : goal.invariant-loop-earlier
invariant-loop-earlier g l = record {
  same : l.cells ≡ l.view;
  lines : (model : Metadata) → IsModel l.view model → Prints l.initial.out l.out (map (type_line model) (range_with_len 1 l.earlier));
}
