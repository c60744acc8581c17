use Rattle.cli_where.proofs.Prelude.{take, flat_map, map, range_with_len, cell_of, row_cells, table_cells, FindsFirst}
use Rattle.cli_where.proofs.entries.find_entries.Given as goal

abbrev pub invariant-loop-of : goal.invariant-loop-of
invariant-loop-of l = FindsFirst l.target l.rows 10 l.left (flat_map (table_cells l.rows.sizes) (take l.of-index l.tables)) l.initial.found l.found

abbrev pub invariant-loop-before : goal.invariant-loop-before
invariant-loop-before l = FindsFirst l.target l.rows l.initial.left l.left (flat_map (row_cells l.table) (range_with_len 1 l.before)) l.initial.found l.found

abbrev pub invariant-loop-column : goal.invariant-loop-column
invariant-loop-column l = FindsFirst l.target l.rows l.initial.left l.left (map (cell_of l.table l.row) (range_with_len 0 l.column)) l.initial.found l.found
