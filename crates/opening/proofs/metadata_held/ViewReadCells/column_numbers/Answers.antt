use Rattle.opening.proofs.Prelude.{◌≡◌, ◌≤◌, ℕ, Some, sym, ap, subst, ◌∙◌, arith, column_of, cell_in, Source, number_of, rows_in, source_of, start_of, kind_at, nullable_at, IsNumberOf, row_count}
use Rattle.rows.specs.Columns.{number_in_row}
use Rattle.opening.proofs.ColumnLemmas.{number_is}
use Rattle.opening.proofs.metadata_held.ViewReadCells.column_numbers.Goals as goal

pub returns-clause-count : goal.returns-clause-count
returns-clause-count c = c.column.ensures.count ∙ c.source.ensures.rows c.args.table

pub returns-clause-indexes : goal.returns-clause-indexes
returns-clause-indexes c = λ row first last.
    let table = c.args.table in
    let root = c.args.self.now in
    let within : row ≤ rows_in c.source.result.now.source table = omega (arith, c.source.ensures.rows table, last) in
    ap Some (sym (c.column.ensures.numbers row first within
    ∙ ap (λ (s : Source). number_of s table row c.column_of_cell.result) c.source.ensures.source
    ∙ ap (λ (n : ℕ). number_of (source_of root) table row n) c.column_of_cell.ensures.value))

pub returns-clause-numbers : goal.returns-clause-numbers
unfolding row_count
returns-clause-numbers c = λ model is row first last.
    let table = c.args.table in
    let cell = c.args.cell in
    let root = c.args.self.now in
    let source = source_of root in
    let column = column_of table cell in
    let within : row ≤ rows_in c.source.result.now.source table = omega (arith, c.source.ensures.rows table, last) in
    let number : number_in_row c.column.result row ≡ number_of source table row column =
    c.column.ensures.numbers row first within
    ∙ ap (λ (s : Source). number_of s table row c.column_of_cell.result) c.source.ensures.source
    ∙ ap (λ (n : ℕ). number_of source table row n) c.column_of_cell.ensures.value in
    subst (λ (n : ℕ). IsNumberOf (kind_at table cell) n (cell_in model table row cell)) (sym number)
    (number_is (record { few = c.tags_fit.ensures.few; row = c.coded_indexes_are_row_numbers.ensures }) source (kind_at table cell) (nullable_at table cell) (start_of source table row column) (number_of source table row column) (cell_in model table row cell)
    (c.models_are_read.ensures.cells root model is table row cell first last c.requires))
