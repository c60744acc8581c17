-- The offsets of tables, rows and columns.
use Rattle.std.proofs.Common.{◌≡◌, ℕ, ◌+◌, ◌-◌, ◌*◌, ◌<◌, ◌≤◌, ◌≢◌, List, length, take, get_or, refl, sym, ◌∙◌, ap, arith, inl, inr, lit<, Bool, true, false, mul-le-mul, below_more, get_or-set_other, get_or-set_same}
use Rattle.std.proofs.Math.ListN.{set}
use Rattle.schema.proofs.Prelude.{take_all, sum_by_more, sum_by_more_le, TableLayout, TableId, Module, GenericParamConstraint, Column, ColumnKind, table_index_of, tables, columns_of, Sizes, count_of, width_of, kind_width, narrow_or_wide, IsWidth, columns_width, tables_size, table_size, row_width, table_start, row_start, cell_start, tables_end, IsTableLayout, AreTableLayouts, table_index_below, table_index_at, table_at_index, length-tables}
use Rattle.table_schema.specs.declared.column.ColumnKind.TheVariants as kind

-- one more column, one more table
pub columns_width_more : (sizes : Sizes) (columns : List Column) (i : ℕ) (none : Column) → i < length columns → columns_width sizes (take (i + 1) columns) ≡ columns_width sizes (take i columns) + width_of sizes (get_or columns i none)
unfolding columns_width
columns_width_more sizes columns i none h = sum_by_more (width_of sizes) columns i none h

pub tables_size_more : (sizes : Sizes) (i : ℕ) → i < 38 → tables_size sizes (take (i + 1) tables) ≡ tables_size sizes (take i tables) + table_size sizes (get_or tables i Module)
unfolding tables_size
tables_size_more sizes i h = sum_by_more (table_size sizes) tables i Module (omega (arith, length-tables))

pub columns_within : (sizes : Sizes) (columns : List Column) (i : ℕ) (none : Column) → i < length columns → columns_width sizes (take i columns) + width_of sizes (get_or columns i none) ≤ columns_width sizes columns
unfolding columns_width
columns_within sizes columns i none h = sum_by_more_le (width_of sizes) columns i none h

tables_within : (sizes : Sizes) (i : ℕ) → i < 38 → tables_size sizes (take i tables) + table_size sizes (get_or tables i Module) ≤ tables_size sizes tables
unfolding tables_size
tables_within sizes i h = sum_by_more_le (table_size sizes) tables i Module (omega (arith, length-tables))

rows_within : (row count width : ℕ) → 1 ≤ row → row ≤ count → (row - 1) * width + width ≤ count * width
rows_within row count width first last =
    let more : row - 1 + 1 ≤ count = omega arith in
    let same : width ≤ width = omega arith in
    let all : (row - 1 + 1) * width ≤ count * width = mul-le-mul more same in
    omega (arith, all)

-- a cell of an existing row is within the tables
pub cell_within : (sizes : Sizes) (table : TableId) (row column : ℕ) (none : Column) → 1 ≤ row → row ≤ count_of sizes table → column < length (columns_of table)
    → cell_start sizes table row column + width_of sizes (get_or (columns_of table) column none) ≤ tables_end sizes
cell_within sizes table row column none first last h =
    let columns = columns_within sizes (columns_of table) column none h in
    let rows = rows_within row (count_of sizes table) (row_width sizes table) first last in
    let all = rw table_at_index at (tables_within sizes (table_index_of table) (table_index_below table)) in
    omega (arith, columns, rows, all)

narrow_or_wide_known : (narrow : Bool) → IsWidth (narrow_or_wide narrow)
narrow_or_wide_known true = inr (inl refl)
narrow_or_wide_known false = inr (inr refl)

kind_width_known : (sizes : Sizes) (kind : ColumnKind) → IsWidth (kind_width sizes kind)
kind_width_known sizes kind.U8 = inl refl
kind_width_known sizes kind.Padding = inl refl
kind_width_known sizes kind.U16 = inr (inl refl)
kind_width_known sizes kind.U32 = inr (inr refl)
kind_width_known sizes _ = narrow_or_wide_known _

-- a column has one, two or four bytes
pub width_known : (sizes : Sizes) (column : Column) (width : ℕ) → width ≡ width_of sizes column → IsWidth width
width_known sizes column width e = rw e (kind_width_known sizes column.kind)

-- an array that is written from the start keeps what was written
pub number_kept : (f : ℕ → ℕ) (kept : List ℕ) (i value : ℕ) → i < length kept → value ≡ f i → ((k : ℕ) → k < i → get_or kept k 0 ≡ f k) → (k : ℕ) → k < i + 1 → get_or (set kept i value) k 0 ≡ f k
number_kept f kept i value h e before =
    below_more _ _
    (λ k b. let ne : k ≢ i = omega arith in rw get_or-set_other (before k b))
    (rw get_or-set_same e)

pub item_kept : {X : Type 0} (P : ℕ → X → Type 0) (kept : List X) (i : ℕ) (value : X) → i < length kept → P i value → ((k : ℕ) (none : X) → k < i → P k (get_or kept k none)) → (k : ℕ) (none : X) → k < i + 1 → P k (get_or (set kept i value) k none)
item_kept {X} P kept i value h here before k none b =
    below_more (λ k. P k (get_or (set kept i value) k none)) i
    (λ k b. let ne : k ≢ i = omega arith in rw get_or-set_other (before k none b))
    (rw get_or-set_same here) k b

-- the offsets that are kept for a table
pub table_layout_kept : (sizes : Sizes) (kept : List TableLayout) → AreTableLayouts sizes kept → (table : TableId) (n : ℕ) (none : TableLayout) → n ≡ table_index_of table → IsTableLayout sizes table (get_or kept n none)
table_layout_kept sizes kept are table n none e =
    rw e (rw table_at_index at (are.each (table_index_of table) none (table_index_below table)))

-- the row offset that is computed from the offsets of a table
pub row_at : (sizes now : Sizes) (table : TableId) (row : ℕ) (table_layout : TableLayout) → IsTableLayout sizes table table_layout → sizes ≡ now → table_layout.start + (row - 1) * table_layout.row_width ≡ row_start now table row
row_at sizes now table row table_layout is e =
    let here : table_layout.start + (row - 1) * table_layout.row_width ≡ row_start sizes table row = cc (is.start, is.row_width) in
    here ∙ ap (λ (s : Sizes). row_start s table row) e

pub cell_at : (sizes now : Sizes) (table : TableId) (row column : ℕ) (table_layout : TableLayout) → IsTableLayout sizes table table_layout → sizes ≡ now → column < length (columns_of table)
    → table_layout.start + (row - 1) * table_layout.row_width + get_or table_layout.offsets column 0 ≡ cell_start now table row column
cell_at sizes now table row column table_layout is e below =
    let offset = is.offsets column (omega arith) in
    let here : table_layout.start + (row - 1) * table_layout.row_width + get_or table_layout.offsets column 0 ≡ cell_start sizes table row column = cc (is.start, is.row_width, offset) in
    here ∙ ap (λ (s : Sizes). cell_start s table row column) e

-- the next table begins where this one ends
pub next_start : (sizes : Sizes) (p start count width : ℕ) → p < 38 → start ≡ sizes.body + tables_size sizes (take p tables) → count ≡ count_of sizes (get_or tables p Module) → width ≡ row_width sizes (get_or tables p Module)
    → start + count * width ≡ sizes.body + tables_size sizes (take (p + 1) tables)
next_start sizes p start count width below s c w =
    let size : count * width ≡ table_size sizes (get_or tables p Module) = cc (c, w) in
    omega (arith, s, size, tables_size_more sizes p below)

-- the table with a table index follows those before it
pub start_at : (sizes : Sizes) (p start : ℕ) → p < 38 → start ≡ sizes.body + tables_size sizes (take p tables) → start ≡ table_start sizes (get_or tables p Module)
start_at sizes p start below e = e ∙ ap (λ (n : ℕ). sizes.body + tables_size sizes (take n tables)) (sym (table_index_at p below))

-- the last table ends where all tables end
pub last_end : (sizes : Sizes) (count : ℕ) → count ≡ count_of sizes GenericParamConstraint → row_start sizes GenericParamConstraint (count + 1) ≡ tables_end sizes
last_end sizes count e =
    let last : TableId = GenericParamConstraint in
    let more : tables_size sizes (take 38 tables) ≡ tables_size sizes (take 37 tables) + table_size sizes last =
    tables_size_more sizes 37 (lit< tt) ∙ ap (λ (t : TableId). tables_size sizes (take 37 tables) + table_size sizes t) (table_at_index last) in
    let all : tables_size sizes (take 38 tables) ≡ tables_size sizes tables = ap (tables_size sizes) (take_all 38 tables (omega (arith, length-tables))) in
    let size : (count + 1 - 1) * row_width sizes last ≡ table_size sizes last = ap (λ n. n * row_width sizes last) (less_one count ∙ e) in
    omega (arith, more, all, size)
  where
    less_one : (n : ℕ) → n + 1 - 1 ≡ n
    less_one n = omega arith
