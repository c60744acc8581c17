use Rattle.opening.proofs.Prelude.{ℕ, ◌≤◌, sym, subst, column_at, column_of, cell_in, Source, rows_in, number_of, StandsIn, Shows, ShowsBlob}
use Rattle.reading.specs.Cursors.{AreCursors}
use Rattle.opening.proofs.cell_cursor.cell_in_pass.Goals as goal

pub cell_onward-requires : goal.cell_onward-requires
cell_onward-requires c =
    let last : c.args.row ≤ rows_in c.source.result.now.source c.args.table = rw (c.source.ensures.rows c.args.table) (c.requires.last) in
    record {
      known = c.known.ensures _ c.source.ensures.source;
      cursors = rw (c.source.ensures.source) (c.requires.cursors);
      first = c.requires.first;
      last = last;
      column = c.column_of_cell.ensures.within;
      stands = λ none. c.source.ensures.readable (λ some.
          none (cell_in some.0 c.args.table c.args.row c.args.column, rw (c.column_of_cell.ensures.value) (some.1.cells c.args.table c.args.row c.args.column c.requires.first last c.requires.column)));
    }

pub returns : goal.returns
returns c = record {
  cursors = rw (← c.source.ensures.source) (c.cell_onward.ensures.cursors);
  cell = λ model is.
      let last : c.args.row ≤ rows_in c.source.result.now.source c.args.table = rw (c.source.ensures.rows c.args.table) (c.requires.last) in
      let stands = (c.source.ensures.read model is).cells c.args.table c.args.row c.args.column c.requires.first last c.requires.column in
      rw (← c.column_of_cell.ensures.value) (c.cell_onward.ensures.cell (cell_in model c.args.table c.args.row c.args.column) (rw (c.column_of_cell.ensures.value) stands));
  blob = rw (← c.source.ensures.source, ← c.column_of_cell.ensures.value) (c.cell_onward.ensures.blob);
}
