-- The columns that have cells.
use Rattle.std.proofs.Common.{◌≡◌, ◌≢◌, ℕ, zero, suc, ◌+◌, ◌<◌, Bool, true, false, cond, List, [], ◌∷◌, length, get_or, slice_index, refl, subst, arith}
use Rattle.table_schema.specs.declared.table.TableId.{TableId}
use Rattle.table_schema.specs.declared.table.TableId.TheVariants.{Constant}
use Rattle.table_schema.specs.declared.column.Column.{Column}
use Rattle.table_schema.specs.declared.column.ColumnKind.TheVariants as kind
use Rattle.table_schema.specs.Columns.{columns_of, column_at, col}
use Rattle.table_schema.specs.CellColumns.{is_padding, indexes_from, cell_columns, cell_count, column_of}

-- an index in the list, whether or not one more is put before it
listed_behind : (padding : Bool) (first : ℕ) (tail : List ℕ) (index : ℕ) → (k : ℕ) × (k < length tail) × (get_or tail k 0 ≡ index)
    → (k : ℕ) × (k < length (cond padding tail (first ∷ tail))) × (get_or (cond padding tail (first ∷ tail)) k 0 ≡ index)
listed_behind true first tail index there = there
listed_behind false first tail index there = (suc there.0, omega (arith, there.1), there.2)

-- each column that is not padding is in the list
column_listed : (index : ℕ) (columns : List Column) (i : ℕ) (d : Column) → i < length columns → is_padding (get_or columns i d).kind ≡ false
    → (k : ℕ) × (k < length (indexes_from index columns)) × (get_or (indexes_from index columns) k 0 ≡ index + i)
column_listed index [] i d within cell = absurd (omega arith)
column_listed index (column ∷ columns) zero d within cell = rw cell (0, omega arith, omega arith)
column_listed index (column ∷ columns) (suc i) d within cell =
    let tail = column_listed (index + 1) columns i d (omega arith) cell in
    listed_behind (is_padding column.kind) index (indexes_from (index + 1) columns) (index + suc i) (tail.0, tail.1, omega (arith, tail.2))

-- an index in the list is that of a column that is not padding
record IsListed (columns : List Column) (index listed : ℕ) (d : Column) : Type 0 where
  i : ℕ
  is : listed ≡ index + i
  within : i < length columns
  cell : is_padding (get_or columns i d).kind ≡ false

listed_more : (column : Column) (columns : List Column) (index listed : ℕ) (d : Column) → IsListed columns (index + 1) listed d
    → IsListed (column ∷ columns) index listed d
listed_more column columns index listed d there =
    record { i = suc there.i; is = omega (arith, there.is); within = omega (arith, there.within); cell = there.cell }

listed_at : (column : Column) (columns : List Column) (index : ℕ) (d : Column) (padding : Bool) → is_padding column.kind ≡ padding
    → ((k : ℕ) → k < length (indexes_from (index + 1) columns) → IsListed columns (index + 1) (get_or (indexes_from (index + 1) columns) k 0) d)
    → (k : ℕ) → k < length (cond padding (indexes_from (index + 1) columns) (index ∷ indexes_from (index + 1) columns))
    → IsListed (column ∷ columns) index (get_or (cond padding (indexes_from (index + 1) columns) (index ∷ indexes_from (index + 1) columns)) k 0) d
listed_at column columns index d true is tail k within = listed_more column columns index _ d (tail k within)
listed_at column columns index d false is tail zero within = record { i = 0; is = omega arith; within = omega arith; cell = is }
listed_at column columns index d false is tail (suc k) within = listed_more column columns index _ d (tail k (omega arith))

listed_is : (index : ℕ) (columns : List Column) (k : ℕ) (d : Column) → k < length (indexes_from index columns)
    → IsListed columns index (get_or (indexes_from index columns) k 0) d
listed_is index [] k d within = absurd (omega arith)
listed_is index (column ∷ columns) k d within =
    listed_at column columns index d (is_padding column.kind) refl (λ j below. listed_is (index + 1) columns j d below) k within

-- the column of a cell is one of the table's columns, and not padding
pub cell_column : (table : TableId) (offset : ℕ) → offset < cell_count table
    → (column_of table offset < length (columns_of table)) × (is_padding (column_at table (column_of table offset)).kind ≡ false)
unfolding cell_columns
cell_column table offset below =
    let listed = listed_is 0 (columns_of table) offset (col kind.U8) below in
    let is : listed.i ≡ column_of table offset = omega (arith, listed.is) in
    (omega (arith, listed.within), subst (λ (i : ℕ). is_padding (column_at table i).kind ≡ false) is listed.cell)

-- each column of a table that is not padding has a cell
pub column_cell : (table : TableId) (column : ℕ) → column < length (columns_of table) → is_padding (column_at table column).kind ≡ false
    → (offset : ℕ) × (offset < cell_count table) × (column_of table offset ≡ column)
unfolding cell_columns
column_cell table column within cell =
    let there = column_listed 0 (columns_of table) column (col kind.U8) within cell in
    (there.0, there.1, omega (arith, there.2))

-- no column is padding
abbrev pub has_all_cells : List Column → Bool
has_all_cells [] = true
has_all_cells (column ∷ columns) = cond (is_padding column.kind) false (has_all_cells columns)

cond_true : (b tail : Bool) → cond b false tail ≡ true → (b ≡ false) × (tail ≡ true)
cond_true true tail e = absurd cc
cond_true false tail e = (refl, e)

index_at : (i : ℕ) (columns : List Column) → has_all_cells columns ≡ true → (k : ℕ) → k < length columns → slice_index (indexes_from i columns) k ≡ i + k
index_at i [] e k h = absurd (omega arith)
index_at i (column ∷ columns) e zero h = let h2 = cond_true (is_padding column.kind) (has_all_cells columns) e in rw (h2.0) (omega arith)
index_at i (column ∷ columns) e (suc k) h =
    let h2 = cond_true (is_padding column.kind) (has_all_cells columns) e in
    let next = index_at (i + 1) columns h2.1 k (omega arith) in
    rw (h2.0) (omega arith)

indexes_long : (i : ℕ) (columns : List Column) → has_all_cells columns ≡ true → length (indexes_from i columns) ≡ length columns
indexes_long i [] e = refl
indexes_long i (column ∷ columns) e =
    let h2 = cond_true (is_padding column.kind) (has_all_cells columns) e in
    let next = indexes_long (i + 1) columns h2.1 in
    rw (h2.0) (omega arith)

only_constant : (table : TableId) → table ≢ Constant → has_all_cells (columns_of table) ≡ true
only_constant Constant other = absurd (other refl)
only_constant _ other = refl

-- each column of a table other than Constant has a cell
pub same_column : (table : TableId) → table ≢ Constant → (cell : ℕ) → cell < cell_count table → (cell ≡ column_of table cell) × (cell < length
    (columns_of table))
unfolding cell_columns
same_column table other cell within =
    let all = only_constant table other in
    let long = indexes_long 0 (columns_of table) all in
    let is = index_at 0 (columns_of table) all cell (omega arith) in
    (omega arith, omega arith)

-- a table other than Constant has a cell for each column
pub same_count : (table : TableId) → table ≢ Constant → length (columns_of table) ≡ cell_count table
unfolding cell_columns
same_count table other = let long = indexes_long 0 (columns_of table) (only_constant table other) in omega (arith, long)
