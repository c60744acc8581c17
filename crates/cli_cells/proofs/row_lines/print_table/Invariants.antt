use Rattle.cli_cells.proofs.Prelude.{◌≡◌, map, range_with_len, Prints, row_line, Content}
use Rattle.cli_cells.proofs.row_lines.print_table.Given as goal

abbrev pub invariant-loop-earlier : goal.invariant-loop-earlier
invariant-loop-earlier g l = record {
  same : l.rows ≡ l.initial.rows;
  lines : (content : Content) → g.R.ShownRows.shows l.initial.rows content → Prints l.initial.out l.out (map (row_line l.names content l.table) (range_with_len 1 l.earlier));
}
