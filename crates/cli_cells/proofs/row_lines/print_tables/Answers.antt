use Rattle.cli_cells.proofs.Prelude.{◌∙◌, [], List, get_or, refl, take, flat_map_more, take_all, take_more, TableId, Module, Part, first_lines}
use Rattle.cli_cells.proofs.row_lines.print_tables.Goals as goal

pub loop-table-init : goal.loop-table-init
loop-table-init g c = record { same = refl; lines = λ content shows. c.lines_follow.ensures.nothing _ }

pub loop-table-preserved : goal.loop-table-preserved
loop-table-preserved g c = record {
  same = c.print_table.ensures.same ∙ c.loop-table.invariant.same;
  lines = λ content shows.
      let all = c.args.tables.now in
      let index = c.loop-table.table-index in
      let lines : TableId → List (List Part) = λ table. first_lines c.args.names content table (g.R.ShownRows.ready_rows c.args.rows.now table) in
      let printed = c.print_table.ensures.lines content (rw c.loop-table.invariant.same shows) in
      rw (take_more all index Module c.loop-table-test.true, ← flat_map_more lines [] (take index all) (get_or all index Module))
      (c.lines_follow.ensures.more _ _ _ _ _ (c.loop-table.invariant.lines content shows) (rw c.loop-table.invariant.same at printed));
}

pub returns : goal.returns
returns g c = λ content shows. rw (← take_all c.loop-table.table-index c.args.tables.now c.loop-table-test.false) (c.loop-table.invariant.lines content shows)
