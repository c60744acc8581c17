-- The numbers of a row: one per column, one for each cell, each truncated to the width of its column.
use Rattle.root_writer.proofs.Prelude.{◌≡◌, ℕ, zero, suc, ◌+◌, ◌-◌, ◌%◌, ◌^◌, ◌<◌, ◌≤◌, Bool, true, false, cond, List, [], ◌∷◌, ◌++◌, map, length, get_or, refl, sym, ap, ◌∙◌, arith, length-map, get_or-map, TableId, Module, Column, ColumnKind, tables, table_index_of, columns_of, Sizes, width_of, row_bytes, rows_bytes, tables_bytes, FitRows, FitTables, fields_of, number_in, Cell, Metadata, rows_of, count_in, is_padding, indexes_from, Pools, pools_of, cell_number, with_next, numbers_by, numbers_of, table_numbers, numbers, sizes_of}
use Rattle.schema.proofs.FieldLemmas.{field_at, fields_fit, low_row}
use Rattle.table_schema.proofs.TableFacts.{length-tables, table_at_index, table_index_below}

-- ---- one number per column

length-with_next : (b : Bool) (number : Cell → ℕ) (tail : List Cell → List ℕ) (n : ℕ) → ((cells : List Cell) → length (tail cells) ≡ n) → (cells : List Cell)
    → length (with_next b number tail cells) ≡ suc n
length-with_next true number tail n h cells = ap suc (h cells)
length-with_next false number tail n h [] = ap suc (h [])
length-with_next false number tail n h (cell ∷ cells) = ap suc (h cells)

pub length-numbers_by : (value : ColumnKind → Cell → ℕ) (columns : List Column) (cells : List Cell) → length (numbers_by value columns cells) ≡ length columns
length-numbers_by value [] cells = refl
length-numbers_by value (column ∷ columns) cells =
    length-with_next (is_padding column.kind) (value column.kind) (numbers_by value columns) (length columns) (length-numbers_by value columns)
    cells

-- ---- the low bytes of each number

abbrev pub table_fields : Metadata → TableId → List (List ℕ)
table_fields model table = map (fields_of (sizes_of model) (columns_of table)) (table_numbers model table)

unfoldable pub fields : Metadata → List (List (List ℕ))
fields model = map (table_fields model) tables

rows_low : (sizes : Sizes) (columns : List Column) (rows : List (List ℕ)) → rows_bytes sizes columns (map (fields_of sizes columns) rows)
    ≡ rows_bytes sizes columns rows
rows_low sizes columns [] = refl
rows_low sizes columns (row ∷ rows) =
    ap (λ l. l ++ rows_bytes sizes columns (map (fields_of sizes columns) rows)) (low_row sizes columns row)
    ∙ ap (λ l. row_bytes sizes columns row ++ l) (rows_low sizes columns rows)

all_low : (model : Metadata) (listed : List TableId) → tables_bytes (sizes_of model) listed (map (table_fields model) listed)
    ≡ tables_bytes (sizes_of model) listed (map (table_numbers model) listed)
all_low model [] = refl
all_low model (table ∷ listed) =
    ap (λ l. l ++ tables_bytes (sizes_of model) listed (map (table_fields model) listed))
    (rows_low (sizes_of model) (columns_of table) (table_numbers model table))
    ∙ ap (λ l. rows_bytes (sizes_of model) (columns_of table) (table_numbers model table) ++ l) (all_low model listed)

-- the bytes of the numbers are those of the fields
pub tables_low : (model : Metadata) → tables_bytes (sizes_of model) tables (fields model) ≡ tables_bytes (sizes_of model) tables (numbers model)
unfolding fields numbers
tables_low model = all_low model tables

fit_rows : (sizes : Sizes) (pools : Pools) (columns : List Column) (rows : List (List Cell))
    → FitRows sizes columns (map (fields_of sizes columns) (map (numbers_of pools columns) rows))
fit_rows sizes pools columns [] = tt
fit_rows sizes pools columns (cells ∷ rows) =
    (fields_fit sizes columns (numbers_of pools columns cells) (length-numbers_by (cell_number pools) columns cells), fit_rows sizes pools columns rows)

fit_all : (model : Metadata) (listed : List TableId) → FitTables (sizes_of model) listed (map (table_fields model) listed)
fit_all model [] = tt
fit_all model (table ∷ listed) = (fit_rows (sizes_of model) (pools_of model) (columns_of table) (rows_of model table), fit_all model listed)

pub fit_tables : (model : Metadata) → FitTables (sizes_of model) tables (fields model)
unfolding fields
fit_tables model = fit_all model tables

count_all : (model : Metadata) (listed : List TableId) → map (count_in model) listed ≡ map length (map (table_fields model) listed)
count_all model [] = refl
count_all model (table ∷ listed) =
    let long : length (table_fields model table) ≡ count_in model table =
    length-map (table_numbers model table) (fields_of (sizes_of model) (columns_of table))
    ∙ length-map (rows_of model table) (numbers_of (pools_of model) (columns_of table)) in
    ap (λ n. n ∷ map (count_in model) listed) (sym long) ∙ ap (λ l. length (table_fields model table) ∷ l) (count_all model listed)

pub counts_are : (model : Metadata) → (sizes_of model).counts ≡ map length (fields model)
unfolding fields sizes_of
counts_are model = count_all model tables

-- ---- the number of a row and a column

-- the cells of a row, counted from 1
abbrev pub cells_of : Metadata → TableId → ℕ → List Cell
cells_of model table row = get_or (rows_of model table) (row - 1) []

pub number_is : (model : Metadata) (table : TableId) (row column : ℕ) (none : Column) → 1 ≤ row → row ≤ count_in model table
    → column < length (columns_of table)
    → number_in (fields model) table row column
    ≡ get_or (numbers_of (pools_of model) (columns_of table) (cells_of model table row)) column 0 % 256 ^ width_of (sizes_of model)
    (get_or (columns_of table) column none)
unfolding fields
number_is model table row column none first last below =
    let low : table_index_of table < length tables = omega (arith, table_index_below table, length-tables) in
    let rows = rows_of model table in
    let here : row - 1 < length rows = omega arith in
    let many : row - 1 < length (table_numbers model table) = omega (arith, length-map rows (numbers_of (pools_of model) (columns_of table))) in
    let one : get_or (map (table_fields model) tables) (table_index_of table) [] ≡ table_fields model table =
    get_or-map (table_fields model) tables (table_index_of table) Module [] low ∙ ap (table_fields model) (table_at_index table) in
    let two : get_or (table_fields model table) (row - 1) [] ≡ fields_of (sizes_of model) (columns_of table) (get_or (table_numbers model table) (row - 1) []) =
    get_or-map (fields_of (sizes_of model) (columns_of table)) (table_numbers model table) (row - 1) [] [] many in
    let three : get_or (table_numbers model table) (row - 1) [] ≡ numbers_of (pools_of model) (columns_of table) (cells_of model table row) =
    get_or-map (numbers_of (pools_of model) (columns_of table)) rows (row - 1) [] [] here in
    ap (λ (t : List (List ℕ)). get_or (get_or t (row - 1) []) column 0) one
    ∙ ap (λ (r : List ℕ). get_or r column 0) (two ∙ ap (fields_of (sizes_of model) (columns_of table)) three)
    ∙ field_at (sizes_of model) (columns_of table) (numbers_of (pools_of model) (columns_of table) (cells_of model table row)) column none
    (length-numbers_by (cell_number (pools_of model)) (columns_of table) (cells_of model table row)) below

-- ---- the number of each cell

-- the number of the cell at an index is in the column of that cell
pub record IsLocated (value : ColumnKind → Cell → ℕ) (row indexes : List ℕ) (columns : List Column) (cells : List Cell) (from cell_index : ℕ) (none : Column)
    (no_cell : Cell) : Type 0 where
  pub index : ℕ
  pub at : get_or indexes cell_index 0 ≡ from + index
  pub below : index < length columns
  pub number : get_or row index 0 ≡ value (get_or columns index none).kind (get_or cells cell_index no_cell)

cell_index_next : (value : ColumnKind → Cell → ℕ) (column : Column) (columns : List Column) (from cell_index : ℕ) (none : Column) (no_cell : Cell)
    → ((cells : List Cell) (cell_index : ℕ) → cell_index < length (indexes_from (from + 1) columns) → length cells ≡ length (indexes_from (from + 1) columns)
    → IsLocated value (numbers_by value columns cells) (indexes_from (from + 1) columns) columns cells (from + 1) cell_index none no_cell)
    → (b : Bool) (cells : List Cell) → cell_index < length (cond b (indexes_from (from + 1) columns) (from ∷ indexes_from (from + 1) columns))
    → length cells ≡ length (cond b (indexes_from (from + 1) columns) (from ∷ indexes_from (from + 1) columns))
    → IsLocated value (with_next b (value column.kind) (numbers_by value columns) cells)
    (cond b (indexes_from (from + 1) columns) (from ∷ indexes_from (from + 1) columns)) (column ∷ columns) cells from cell_index none no_cell
cell_index_next value column columns from cell_index none no_cell next true cells below long =
    let tail = next cells cell_index below long in
    record { index = suc tail.index; at = tail.at ∙ omega arith; below = omega (arith, tail.below); number = tail.number }
cell_index_next value column columns from cell_index none no_cell next false [] below long = absurd (omega arith)
cell_index_next value column columns from zero none no_cell next false (cell ∷ cells) below long =
    record { index = 0; at = omega arith; below = omega arith; number = refl }
cell_index_next value column columns from (suc cell_index) none no_cell next false (cell ∷ cells) below long =
    let tail = next cells cell_index (omega arith) (omega arith) in
    record { index = suc tail.index; at = tail.at ∙ omega arith; below = omega (arith, tail.below); number = tail.number }

pub located : (value : ColumnKind → Cell → ℕ) (columns : List Column) (cells : List Cell) (from cell_index : ℕ) (none : Column) (no_cell : Cell)
    → cell_index < length (indexes_from from columns) → length cells ≡ length (indexes_from from columns)
    → IsLocated value (numbers_by value columns cells) (indexes_from from columns) columns cells from cell_index none no_cell
located value [] cells from cell_index none no_cell below long = absurd (omega arith)
located value (column ∷ columns) cells from cell_index none no_cell below long =
    cell_index_next value column columns from cell_index none no_cell (λ tail k l e. located value columns tail (from + 1) k none no_cell l e) (is_padding column.kind)
    cells below long
