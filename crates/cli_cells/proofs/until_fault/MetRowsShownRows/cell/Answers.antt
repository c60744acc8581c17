use Rattle.cli_cells.proofs.Prelude.{column_of, cell_at, ◌≡◌, ◌∙◌, ℕ, ◌-◌, ◌<◌, ◌≤◌, ◌==◌, Bool, true, false, Option, Some, None, refl, sym, ap, subst, arith, nat_lt, if◌then◌else◌, slice_index_or, eqb-true, ltb-true, AllHold, each_holds, TableId, Module, rows_in, SourceAt, table_at, rules_of_cells, rules_of_table, rules_of_table_at, rules_of_row, rules_of_cell, columns_of, length, IsBroken, IsBrokenRow, IsFirstBroken, BrokenRow, rows_before}
use Rattle.cli_cells.proofs.ReadLemmas.{blob_is, blob_short, cell_stands, signature_blob}
use Rattle.table_schema.specs.Tables.{tables, table_index_of}
use Rattle.cli_cells.proofs.until_fault.MetRowsShownRows.cell.Goals as goal

module _ (here : SourceAt) (stand : (table : TableId) → slice_index_or tables (table_index_of table) Module ≡ table) (listed : (table : TableId) → table_index_of table < 38) where
  table_met : (table : TableId) (row : ℕ) → AllHold (rules_of_table_at here (table_index_of table)) → 1 ≤ row → row ≤ rows_in here.source table → AllHold (rules_of_row here table row)
  unfolding rules_of_table_at rules_of_table
  table_met table row all first last =
      let held : AllHold (rules_of_table here table) = subst (λ (t : TableId). AllHold (rules_of_table here t)) (stand table) all in
      each_holds (rules_of_row here table) 1 (rows_in here.source table) held row first (omega (arith, last))

  before_met : (at : BrokenRow) → IsBroken here at → (table : TableId) (row : ℕ) → 1 ≤ row → (earlier same : Bool) → nat_lt (table_index_of table) at.table_index ≡ earlier
      → (table_index_of table == at.table_index) ≡ same → row ≤ (if earlier then rows_in here.source table else (if same then at.row - 1 else 0))
      → (row ≤ rows_in here.source table) × AllHold (rules_of_row here table row)
  before_met at is table row first true same lower equal last =
      (last, table_met table row (is.tables.each (table_index_of table) (omega arith) (ltb-true (table_index_of table) at.table_index lower)) first last)
  before_met at is table row first false true lower equal last =
      let found : table_at at.table_index ≡ table = ap table_at (sym (eqb-true (table_index_of table) at.table_index equal)) ∙ stand table in
      let broken : IsBrokenRow here table at.row = subst (λ (t : TableId). IsBrokenRow here t at.row) found is.row in
      (omega (arith, last, broken.last), broken.before.each row first (omega (arith, last, broken.first)))
  before_met at is table row first false false lower equal last = absurd (omega (arith, first, last))

  -- each row before the broken one exists, and follows the rules for cells
  row_met : (broken : Option BrokenRow) → IsFirstBroken here broken → (table : TableId) (row : ℕ) → 1 ≤ row → row ≤ rows_before here.source broken table
      → (row ≤ rows_in here.source table) × AllHold (rules_of_row here table row)
  unfolding rules_of_cells
  row_met None all table row first last =
      (last, table_met table row (each_holds (rules_of_table_at here) 0 38 all (table_index_of table) (omega arith) (omega (arith, listed table))) first last)
  row_met (Some at) is table row first last =
      before_met at is table row first (nat_lt (table_index_of table) at.table_index) (table_index_of table == at.table_index) refl refl last

  -- so does each of its cells
  cell_met : (broken : Option BrokenRow) → IsFirstBroken here broken → (table : TableId) (row column : ℕ) → 1 ≤ row → row ≤ rows_before here.source broken table
      → column < length (columns_of table) → (row ≤ rows_in here.source table) × AllHold (rules_of_cell here table row column)
  unfolding rules_of_row
  cell_met broken is table row column first last within =
      let met = row_met broken is table row first last in
      (met.0, each_holds (rules_of_cell here table row) 0 (length (columns_of table)) met.1 column (omega arith) (omega (arith, within)))

pub number-requires-clause-last : goal.number-requires-clause-last
number-requires-clause-last c =
    (cell_met c.self.inside.source.now c.tables_stand.ensures.stand c.tables_stand.ensures.table_index c.self.inside.broken c.self.invariant.broken
    c.args.table c.args.row c.column_of_cell-column.result c.requires.first (rw (← c.self.view_is) at c.requires.last) c.column_of_cell-column.ensures.within).0

pub unreachable-requires : goal.unreachable-requires
unreachable-requires c =
    let met = cell_met c.self.inside.source.now c.tables_stand.ensures.stand c.tables_stand.ensures.table_index c.self.inside.broken c.self.invariant.broken
    c.args.table c.args.row c.column_of_cell-column.result c.requires.first (rw (← c.self.view_is) at c.requires.last) c.column_of_cell-column.ensures.within in
    let it = signature_blob c.self.inside.source.now c.args.table c.args.row c.column_of_cell-column.result c.in-Signature.kind (rw c.column_at.ensures at c.in-Signature.is) met.1 in
    c.in_default-blob.ensures.complete it.0 (rw (c.number.ensures.value, c.blobs.ensures) it.1)

pub blob_cell-requires : goal.blob_cell-requires
blob_cell-requires c = blob_short c.shortest_forms_encode.ensures.unsigned_below c.blobs.result.now c.number.result c.in-Ok.blob.now c.in-Ok.ensures.sound

pub cell_onward-requires : goal.cell_onward-requires
cell_onward-requires c =
    let met = cell_met c.self.inside.source.now c.tables_stand.ensures.stand c.tables_stand.ensures.table_index c.self.inside.broken c.self.invariant.broken
    c.args.table c.args.row c.column_of_cell-column.result c.requires.first (rw (← c.self.view_is) at c.requires.last) c.column_of_cell-column.ensures.within in record {
      known = c.self.invariant.known;
      cursors = c.self.invariant.cursors;
      first = c.requires.first;
      last = met.0;
      column = c.column_of_cell-column.ensures.within;
      stands = λ none. none (
        cell_at c.self.inside.source.now.source c.args.table c.args.row c.column_of_cell-column.result,
        cell_stands c.numbers_are_read.ensures.unsigned_only c.tags_fit.ensures.few c.self.inside.source.now c.args.table c.args.row c.column_of_cell-column.result
            (rw c.column_of_cell-column.ensures.value (c.cells_have_columns.ensures.column c.args.table c.args.cell_index c.requires.cell_index).1) (λ of same. c.in_default.not-Signature of (rw c.column_at.ensures same)) met.1,
      );
    }

pub returns-in-Ok-clause-some : goal.returns-in-Ok-clause-some
unfolding cell_at
returns-in-Ok-clause-some c = λ none. none (
  cell_at c.self.inside.source.now.source c.args.table c.args.row (column_of c.args.table c.args.cell_index),
  rw (← c.column_of_cell-column.ensures.value, rw c.column_at.ensures at c.in-Signature.is)
      (rw (blob_is c.numbers_are_read.ensures.unsigned_only c.blobs.result.now c.number.result c.in-Ok.blob.now c.in-Ok.ensures.sound, c.blobs.ensures, c.number.ensures.value) at c.blob_cell.ensures),
)

pub returns-in-Ok-clause-cell : goal.returns-in-Ok-clause-cell
unfolding cell_at
returns-in-Ok-clause-cell c = λ content is.
    rw (is, ← c.self.view_is, ← c.column_of_cell-column.ensures.value, rw c.column_at.ensures at c.in-Signature.is)
    (rw (blob_is c.numbers_are_read.ensures.unsigned_only c.blobs.result.now c.number.result c.in-Ok.blob.now c.in-Ok.ensures.sound, c.blobs.ensures, c.number.ensures.value) at c.blob_cell.ensures)

pub returns-in_default-clause-some : goal.returns-in_default-clause-some
returns-in_default-clause-some c = λ none.
    let met = cell_met c.self.inside.source.now c.tables_stand.ensures.stand c.tables_stand.ensures.table_index c.self.inside.broken c.self.invariant.broken
    c.args.table c.args.row c.column_of_cell-column.result c.requires.first (rw (← c.self.view_is) at c.requires.last) c.column_of_cell-column.ensures.within in none (
      cell_at c.self.inside.source.now.source c.args.table c.args.row c.column_of_cell-column.result,
      rw (← c.column_of_cell-column.ensures.value)
          (c.cell_onward.ensures.cell _ (cell_stands c.numbers_are_read.ensures.unsigned_only c.tags_fit.ensures.few c.self.inside.source.now c.args.table c.args.row c.column_of_cell-column.result
          (rw c.column_of_cell-column.ensures.value (c.cells_have_columns.ensures.column c.args.table c.args.cell_index c.requires.cell_index).1) (λ of same. c.in_default.not-Signature of (rw c.column_at.ensures same)) met.1)),
    )

pub returns-in_default-clause-cell : goal.returns-in_default-clause-cell
returns-in_default-clause-cell c = λ content is.
    let met = cell_met c.self.inside.source.now c.tables_stand.ensures.stand c.tables_stand.ensures.table_index c.self.inside.broken c.self.invariant.broken
    c.args.table c.args.row c.column_of_cell-column.result c.requires.first (rw (← c.self.view_is) at c.requires.last) c.column_of_cell-column.ensures.within in
    rw (is, ← c.self.view_is, ← c.column_of_cell-column.ensures.value)
    (c.cell_onward.ensures.cell _ (cell_stands c.numbers_are_read.ensures.unsigned_only c.tags_fit.ensures.few c.self.inside.source.now c.args.table c.args.row c.column_of_cell-column.result
    (rw c.column_of_cell-column.ensures.value (c.cells_have_columns.ensures.column c.args.table c.args.cell_index c.requires.cell_index).1) (λ of same. c.in_default.not-Signature of (rw c.column_at.ensures same)) met.1))
