use Rattle.cli_info.proofs.Prelude.{◌≡◌, ◌≤◌, length, Metadata, IsModel, Prints, lines_of_rows, own_rows}
use Rattle.cli_info.proofs.attributes.print_attributes.Given as goal

abbrev pub invariant-loop-earlier : goal.invariant-loop-earlier
invariant-loop-earlier g l = record {
  within : l.own ≤ l.earlier;
  own : (model : Metadata) → IsModel l.view model → l.own ≡ length (own_rows model l.earlier);
  printed : (model : Metadata) → IsModel l.view model → Prints l.initial.out l.out (lines_of_rows model (own_rows model l.earlier));
}
