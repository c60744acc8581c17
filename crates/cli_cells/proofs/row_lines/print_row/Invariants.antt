use Rattle.cli_cells.proofs.Prelude.{◌≡◌, Adds, cell_parts, Content, flat_map, range_with_len}
use Rattle.cli_cells.proofs.row_lines.print_row.Given as goal

abbrev pub invariant-loop-cell_index : goal.invariant-loop-cell_index
invariant-loop-cell_index g l = record {
  same : l.rows ≡ l.initial.rows;
  parts : (content : Content) → g.R.ShownRows.shows l.initial.rows content → Adds l.initial.out l.out (flat_map (cell_parts l.names content l.row.table l.row.row) (range_with_len 0 l.cell_index));
}
