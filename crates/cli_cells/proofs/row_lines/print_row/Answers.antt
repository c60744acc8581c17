use Rattle.cli_cells.proofs.Prelude.{◌≡◌, ◌<◌, ◌≤◌, ◌∙◌, arith, refl, cell_count, cell_parts}
use Rattle.cli_cells.proofs.PartLemmas.{parts_more}
use Rattle.cli_cells.proofs.row_lines.print_row.Goals as goal

pub print_cell-requires : goal.print_cell-requires
print_cell-requires g c = λ k.
    let last : c.args.row.row ≤ g.R.ShownRows.ready_rows c.loop-cell_index.rows c.args.row.table = rw c.loop-cell_index.invariant.same c.requires.last in
    let within : c.loop-cell_index.cell_index < cell_count c.args.row.table = omega (arith, c.loop-cell_index-test.true, c.cell_count-cell_index-end.ensures) in
    ((refl, tt), (c.requires.first, (last, within)))

pub loop-cell_index-preserved : goal.loop-cell_index-preserved
loop-cell_index-preserved g c = record {
  same = c.print_cell.ensures.same ∙ c.loop-cell_index.invariant.same;
  parts = λ content shows.
      let more = c.parts_follow.ensures.more in
      rw (← parts_more (cell_parts c.args.names content c.args.row.table c.args.row.row) c.loop-cell_index.cell_index)
      (more _ _ _ _ _ (c.loop-cell_index.invariant.parts content shows)
      (more _ _ _ _ _ c.print_label.ensures (c.print_cell.ensures.part content (rw c.loop-cell_index.invariant.same shows))));
}

pub returns-clause-line : goal.returns-clause-line
returns-clause-line g c = λ content shows.
    let all : cell_count c.args.row.table ≡ c.loop-cell_index.cell_index = omega (arith, c.loop-cell_index-test.false, c.cell_count-cell_index-end.ensures) in
    rw all (c.parts_follow.ensures.line _ _ _ _ _ _ c.begin_row.ensures (c.loop-cell_index.invariant.parts content shows) c.end.ensures)
