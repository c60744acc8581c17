use Rattle.cell_numbering.proofs.Prelude.{◌≡◌, ℕ, ◌+◌, ◌<◌, false, List, get_or, drop, sym, ap, ◌∙◌, arith, Column, TableId, column_at, columns_of, col, is_padding, cell_count, row_of, HasRow}
use Rattle.table_schema.specs.declared.column.ColumnKind.TheVariants as kind
use Rattle.cell_numbering.proofs.CellIndexLemmas.{unpadded, cell_index_is, next_cell, few_cells}
use Rattle.cell_numbering.proofs.numbers.put_next.Goals as goal

no_padding : (table : TableId) (index : ℕ) (columns : List Column) → columns ≡ columns_of table → ((get_or columns index (col kind.U8)).kind ≡ kind.Padding → ⊥)
    → is_padding (column_at table index).kind ≡ false
no_padding table index columns same other = unpadded (column_at table index).kind (λ e. other (ap (λ (list : List Column). (get_or list index (col kind.U8)).kind) same ∙ e))

pub put_cell-requires : goal.put_cell-requires
put_cell-requires g c = record {
  cursors = c.requires.cursors;
  plain = c.requires.plain;
  first = c.requires.first;
  last = c.requires.last;
  cell_index = (cell_index_is c.args.table c.args.index c.args.cell_index c.requires.column c.requires.cell_index (no_padding c.args.table c.args.index c.columns.result.now c.columns.ensures c.in_default.not-Padding)).0;
}

pub overflow_add-result : goal.overflow_add-result
overflow_add-result g c =
    let within : c.args.cell_index < cell_count c.args.table = (cell_index_is c.args.table c.args.index c.args.cell_index c.requires.column c.requires.cell_index (no_padding c.args.table c.args.index c.columns.result.now c.columns.ensures c.in_default.not-Padding)).0 in
    omega (arith, within, few_cells c.args.table, c.columns_stand.ensures.few c.args.table)

pub returns-in_ok-put_cell-in_default-clause-ok : goal.returns-in_ok-put_cell-in_default-clause-ok
returns-in_ok-put_cell-in_default-clause-ok g c = λ model is tail.
    let table = c.args.table in
    let row = row_of model table c.args.row in
    let there : HasRow model table c.args.row = (c.requires.first, omega (arith, c.holds_one.ensures.rows model is table, c.requires.last)) in
    let long = (c.holds_one.ensures.valid model is).long table c.args.row there in
    next_cell table c.args.index c.args.cell_index c.requires.column c.requires.cell_index (no_padding c.args.table c.args.index c.columns.result.now c.columns.ensures c.in_default.not-Padding) c.args.indexes tail row c.args.so_far.now long
    ∙ ap (tail (drop (c.args.cell_index + 1) row)) (sym (c.in_ok-put_cell-in_default.ensures.ok model is))

pub returns-in_ok-put_cell-in_default-clause-cell_index : goal.returns-in_ok-put_cell-in_default-clause-cell_index
returns-in_ok-put_cell-in_default-clause-cell_index g c =
    (cell_index_is c.args.table c.args.index c.args.cell_index c.requires.column c.requires.cell_index (no_padding c.args.table c.args.index c.columns.result.now c.columns.ensures c.in_default.not-Padding)).2
