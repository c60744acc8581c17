use Rattle.opening.proofs.Prelude.{◌≡◌, ℕ, ◌≤◌, sym, subst, column_at, cell_in, column_of, Source, rows_in, number_of, StandsIn, Shows, ShowsBlob}
use Rattle.opening.proofs.view.View.cell_of_kind.Goals as goal

pub cell_of_kind-requires : goal.cell_of_kind-requires
cell_of_kind-requires c =
    let last : c.args.row ≤ rows_in c.source.result.now.source c.args.table = rw (c.source.ensures.rows c.args.table) (c.requires.last) in
    record {
      known = c.known.ensures _ c.source.ensures.source;
      first = c.requires.first;
      last = last;
      column = c.column_of_cell-table_column.ensures.within;
      kind = rw (c.column_of_cell-table_column.ensures.value) (c.requires.kind);
      stands = λ none. c.source.ensures.readable (λ some.
          none (cell_in some.0 c.args.table c.args.row c.args.column, rw (c.column_of_cell-table_column.ensures.value) (some.1.cells c.args.table c.args.row c.args.column c.requires.first last c.requires.column)));
    }

pub returns : goal.returns
returns c = record {
  cell = λ model is.
      let last : c.args.row ≤ rows_in c.source.result.now.source c.args.table = rw (c.source.ensures.rows c.args.table) (c.requires.last) in
      let stands = (c.source.ensures.read model is).cells c.args.table c.args.row c.args.column c.requires.first last c.requires.column in
      rw (← c.column_of_cell-table_column.ensures.value) (c.cell_of_kind.ensures.cell (cell_in model c.args.table c.args.row c.args.column) (rw (c.column_of_cell-table_column.ensures.value) stands));
  blob = rw (← c.source.ensures.source, ← c.column_of_cell-table_column.ensures.value) (c.cell_of_kind.ensures.blob);
}
