use Rattle.cli_cells.proofs.Prelude.{◌≡◌, take, Prints, first_lines, Content, flat_map}
use Rattle.cli_cells.proofs.row_lines.print_tables.Given as goal

abbrev pub invariant-loop-table : goal.invariant-loop-table
invariant-loop-table g l = record {
  same : l.rows ≡ l.initial.rows;
  lines : (content : Content) → g.R.ShownRows.shows l.initial.rows content
      → Prints l.initial.out l.out (flat_map (λ table. first_lines l.names content table (g.R.ShownRows.ready_rows l.initial.rows table)) (take l.table-index l.tables));
}
