-- There are rows of all tables if and only if the rules for cells and signatures hold. There is only one such list.
use Rattle.metadata.proofs.Prelude.{◌≡◌, ℕ, ◌+◌, ◌<◌, ◌≤◌, true, false, List, length, subst, arith, inl, inr, cases_Bool, AllHold, each_holds, all_of_each, TableId, columns_of, column_at, Cell, Source, rows_in, number_of, start_of, SourceAt, cell_offset, is_padding, cell_count, column_of, StandsIn, IsCell, IsRow, IsTable, IsTableAt, AreTables, table_at, rules_of_cell, rules_of_row, rules_of_table, rules_of_table_at, rules_of_cells, rules_of_signature, rules_of_signatures_in, rules_of_signatures_of, rules_of_signatures_at, rules_of_signatures}
use Rattle.table_schema.proofs.CellColumnLemmas.{cell_column, column_cell}
use Rattle.metadata.proofs.ItemLemmas.{item_of, items_of, items_one}
use Rattle.metadata.proofs.StandsLemmas.{AreOne, stands_found, number_met, encoding_met, padding_met, stands_one}

-- cells

-- the rules for a cell, its number and its signature
abbrev CellHolds : SourceAt → TableId → ℕ → ℕ → Type 0
CellHolds here table row column = AllHold (rules_of_cell here table row column) × AllHold (rules_of_signature here table row column)

cell_found : (here : SourceAt) (table : TableId) (row column : ℕ) → is_padding (column_at table column).kind ≡ false → CellHolds here table row column
    → (cell : Cell) × StandsIn here.source table row column cell
unfolding rules_of_cell rules_of_signature
cell_found here table row column shown holds =
    let of = column_at table column in
    let offset = cell_offset here table row column in
    stands_found here.source of.kind of.nullable (start_of here.source table row column) (number_of here.source table row column) offset offset shown holds.0 holds.1

cell_met : (here : SourceAt) (table : TableId) (row column : ℕ) (cell : Cell) → StandsIn here.source table row column cell → CellHolds here table row column
unfolding rules_of_cell rules_of_signature
cell_met here table row column cell stands =
    let of = column_at table column in
    let start = start_of here.source table row column in
    let number = number_of here.source table row column in
    let offset = cell_offset here table row column in
    (number_met here.source of.kind of.nullable start number offset cell stands, encoding_met here.source of.kind of.nullable start number offset cell stands)

none_met : (here : SourceAt) (table : TableId) (row column : ℕ) → is_padding (column_at table column).kind ≡ true → CellHolds here table row column
unfolding rules_of_cell rules_of_signature
none_met here table row column padding =
    padding_met here.source (column_at table column).kind (column_at table column).nullable (number_of here.source table row column)
    (cell_offset here table row column) (cell_offset here table row column) padding

pub cell_one : AreOne → (source : Source) (table : TableId) (row cell_index : ℕ) (x y : Cell) → IsCell source table row cell_index x
    → IsCell source table row cell_index y → x ≡ y
cell_one one source table row cell_index x y a b =
    let column = column_of table cell_index in
    let held = column_at table column in
    stands_one one source held.kind held.nullable (start_of source table row column) (number_of source table row column) x y a b

-- rows

row_found : (here : SourceAt) (table : TableId) (row : ℕ) → AllHold (rules_of_row here table row) → AllHold (rules_of_signatures_in here table row)
    → (cells : List Cell) × IsRow here.source table row cells
unfolding rules_of_row rules_of_signatures_in IsRow
row_found here table row numbers encoded =
    items_of (IsCell here.source table row) 0 (cell_count table) (λ offset low high.
    let column = cell_column table offset (omega arith) in
    cell_found here table row (column_of table offset) column.1 (
      each_holds (rules_of_cell here table row) 0 (length (columns_of table)) numbers (column_of table offset) (omega arith) (omega (arith, column.0)),
      each_holds (rules_of_signature here table row) 0 (length (columns_of table)) encoded (column_of table offset) (omega arith) (omega (arith, column.0)),
    ))

row_cell : (here : SourceAt) (table : TableId) (row : ℕ) (cells : List Cell) → IsRow here.source table row cells → (column : ℕ)
    → column < length (columns_of table) → CellHolds here table row column
unfolding IsRow
row_cell here table row cells is column within =
    elim (cases_Bool (is_padding (column_at table column).kind)) [
      | inl padding ↦ none_met here table row column padding
      | inr shown ↦
          let there = column_cell table column within shown in
          let cell = item_of (IsCell here.source table row) 0 (cell_count table) cells is there.0 (omega arith) (omega (arith, there.1)) in
          cell_met here table row column cell.0 (subst (λ (c : ℕ). StandsIn here.source table row c cell.0) there.2 cell.1)
    ]

row_met : (here : SourceAt) (table : TableId) (row : ℕ) (cells : List Cell) → IsRow here.source table row cells
    → AllHold (rules_of_row here table row) × AllHold (rules_of_signatures_in here table row)
unfolding rules_of_row rules_of_signatures_in
row_met here table row cells is =
    let count = length (columns_of table) in
    let holds = λ (column : ℕ) (within : column < count). row_cell here table row cells is column within in (
      all_of_each (rules_of_cell here table row) 0 count (λ column low high. (holds column (omega arith)).0),
      all_of_each (rules_of_signature here table row) 0 count (λ column low high. (holds column (omega arith)).1),
    )

row_one : AreOne → (source : Source) (table : TableId) (row : ℕ) (x y : List Cell) → IsRow source table row x → IsRow source table row y → x ≡ y
unfolding IsRow
row_one one source table row x y a b = items_one (IsCell source table row) (cell_one one source table row) 0 (cell_count table) x y a b

-- tables

table_found : (here : SourceAt) (table_index : ℕ) → AllHold (rules_of_table_at here table_index) → AllHold (rules_of_signatures_at here table_index)
    → (rows : List (List Cell)) × IsTableAt here.source table_index rows
unfolding rules_of_table_at rules_of_table rules_of_signatures_at rules_of_signatures_of IsTableAt IsTable
table_found here table_index numbers encoded =
    let table = table_at table_index in
    items_of (IsRow here.source table) 1 (rows_in here.source table) (λ row low high.
    row_found here table row
    (each_holds (rules_of_row here table) 1 (rows_in here.source table) numbers row low high)
    (each_holds (rules_of_signatures_in here table) 1 (rows_in here.source table) encoded row low high))

table_met : (here : SourceAt) (table_index : ℕ) (rows : List (List Cell)) → IsTableAt here.source table_index rows
    → AllHold (rules_of_table_at here table_index) × AllHold (rules_of_signatures_at here table_index)
unfolding rules_of_table_at rules_of_table rules_of_signatures_at rules_of_signatures_of IsTableAt IsTable
table_met here table_index rows is =
    let table = table_at table_index in
    let row_holds = λ (row : ℕ) (low : 1 ≤ row) (high : row < 1 + rows_in here.source table).
    let cells = item_of (IsRow here.source table) 1 (rows_in here.source table) rows is row low high in row_met here table row cells.0 cells.1 in (
      all_of_each (rules_of_row here table) 1 (rows_in here.source table) (λ row low high. (row_holds row low high).0),
      all_of_each (rules_of_signatures_in here table) 1 (rows_in here.source table) (λ row low high. (row_holds row low high).1),
    )

table_one : AreOne → (source : Source) (table_index : ℕ) (x y : List (List Cell)) → IsTableAt source table_index x → IsTableAt source table_index y → x ≡ y
unfolding IsTableAt IsTable
table_one one source table_index x y a b =
    items_one (IsRow source (table_at table_index)) (row_one one source (table_at table_index)) 1 (rows_in source (table_at table_index)) x y a b

-- all tables

pub tables_found : (here : SourceAt) → AllHold (rules_of_cells here) → AllHold (rules_of_signatures here)
    → (tables : List (List (List Cell))) × AreTables here.source tables
unfolding rules_of_cells rules_of_signatures
tables_found here numbers encoded =
    items_of (IsTableAt here.source) 0 38 (λ table_index low high.
    table_found here table_index
    (each_holds (rules_of_table_at here) 0 38 numbers table_index low high)
    (each_holds (rules_of_signatures_at here) 0 38 encoded table_index low high))

table_holds : (here : SourceAt) (tables : List (List (List Cell))) → AreTables here.source tables → (table_index : ℕ) → 0 ≤ table_index → table_index < 0 + 38
    → AllHold (rules_of_table_at here table_index) × AllHold (rules_of_signatures_at here table_index)
table_holds here tables are table_index low high =
    let rows = item_of (IsTableAt here.source) 0 38 tables are table_index low high in
    table_met here table_index rows.0 rows.1

pub cells_met : (here : SourceAt) (tables : List (List (List Cell))) → AreTables here.source tables → AllHold (rules_of_cells here)
unfolding rules_of_cells
cells_met here tables are = all_of_each (rules_of_table_at here) 0 38 (λ table_index low high. (table_holds here tables are table_index low high).0)

pub signatures_met : (here : SourceAt) (tables : List (List (List Cell))) → AreTables here.source tables → AllHold (rules_of_signatures here)
unfolding rules_of_signatures
signatures_met here tables are = all_of_each (rules_of_signatures_at here) 0 38 (λ table_index low high. (table_holds here tables are table_index low high).1)

pub tables_one : AreOne → (source : Source) (x y : List (List (List Cell))) → AreTables source x → AreTables source y → x ≡ y
tables_one one source x y a b = items_one (IsTableAt source) (table_one one source) 0 38 x y a b
