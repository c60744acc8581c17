-- The length of a table stream depends only on the row counts and HeapSizes.
use Rattle.writer.proofs.Prelude.{◌≡◌, ℕ, zero, suc, ◌+◌, ◌-◌, ◌*◌, ◌≤◌, inl, inr, Bool, cond, List, [], ◌∷◌, ◌++◌, length, take, drop, refl, ap, ◌∙◌, length-append, length-drop, arith, fun_ext, sum_by, count_by, cases_Bool, get_or-map, length-take-le, sum_by-cons, TableId, Module, tables, table_index_of, columns_of, Sizes, count_of, width_of, header_size, number_bytes, row_bytes, rows_bytes, tables_bytes, bits_of, counts_bytes, Metadata, count_in, numbers, has_rows, sizes_of, header_bytes}
use Rattle.schema.proofs.NumberLemmas.{length-number_bytes}
use Rattle.table_schema.specs.declared.column.Column.{Column}
use Rattle.schema.specs.Offsets.{columns_width, table_size, tables_size, tables_end}
use Rattle.root_writer.specs.Flat.{cells_of, rows_in, table_in, tables_in}
use Rattle.table_schema.proofs.TableFacts.{length-tables as all_tables, table_at_index, table_index_below}

-- ---- rows

length-row : (sizes : Sizes) (columns : List Column) (numbers : List ℕ) → length numbers ≡ length columns → length (row_bytes sizes columns numbers) ≡ sum_by (width_of sizes) columns
length-row sizes [] [] same = refl
length-row sizes [] (number ∷ numbers) same = refl
length-row sizes (column ∷ columns) [] same = absurd (omega (arith, same))
length-row sizes (column ∷ columns) (number ∷ numbers) same =
    omega (
      arith,
      length-append (number_bytes (width_of sizes column) number) (row_bytes sizes columns numbers),
      length-number_bytes (width_of sizes column) number,
      length-row sizes columns numbers (omega (arith, same)),
      sum_by-cons (width_of sizes) column columns,
    )

one_more : (width count row : ℕ) → row ≡ width * (count + 1) → (row - width ≡ width * count) × (width ≤ row)
one_more width count row all = (omega arith, omega arith)

width_more : (width count : ℕ) → width + count * width ≡ (count + 1) * width
width_more width count = omega arith

length-rows : (sizes : Sizes) (columns : List Column) (count : ℕ) (numbers : List ℕ) → length numbers ≡ length columns * count
    → length (rows_bytes sizes columns (rows_in (length columns) count numbers)) ≡ count * sum_by (width_of sizes) columns
length-rows sizes columns zero numbers same = omega arith
length-rows sizes columns (suc count) numbers same =
    let width = length columns in
    let more = one_more width count (length numbers) (same ∙ omega arith) in
    let row = row_bytes sizes columns (take width numbers) in
    let tail = rows_bytes sizes columns (rows_in width count (drop width numbers)) in
    let here = length-row sizes columns (take width numbers) (length-take-le width numbers more.1) in
    let behind = length-rows sizes columns count (drop width numbers) (length-drop width numbers ∙ more.0) in
    omega (arith, length-append row tail, here, behind, width_more (sum_by (width_of sizes) columns) count)

length-tables : (sizes : Sizes) (listed : List TableId) (numbers : List ℕ) → length numbers ≡ sum_by (cells_of sizes) listed
    → length (tables_bytes sizes listed (tables_in sizes listed numbers)) ≡ sum_by (table_size sizes) listed
unfolding columns_width
length-tables sizes [] numbers same = refl
length-tables sizes (table ∷ listed) numbers same =
    let cells = cells_of sizes table in
    let all = sum_by-cons (cells_of sizes) table listed in
    let prefix = rows_bytes sizes (columns_of table) (table_in sizes table (take cells numbers)) in
    let tail = tables_bytes sizes listed (tables_in sizes listed (drop cells numbers)) in
    let here = length-rows sizes (columns_of table) (count_of sizes table) (take cells numbers) (length-take-le cells numbers (omega (arith, same, all))) in
    let behind = length-tables sizes listed (drop cells numbers) (omega (arith, length-drop cells numbers, same, all)) in
    omega (arith, length-append prefix tail, here, behind, sum_by-cons (table_size sizes) table listed)

-- ---- counts

length-counts : (test : TableId → Bool) (sizes : Sizes) (listed : List TableId) → length (counts_bytes test sizes listed) ≡ 4 * count_by test listed
length-counts test sizes [] = refl
length-counts test sizes (table ∷ listed) =
    let tail = counts_bytes test sizes listed in
    let here = number_bytes 4 (count_of sizes table) in
    let one : Bool → ℕ = λ b. cond b 1 0 in
    elim (cases_Bool (test table)) [
      | inl set ↦ omega (
        arith,
        ap (λ b. length (cond b here [] ++ tail)) set,
        ap one set,
        length-append here tail,
        sum_by-cons (λ t. one (test t)) table listed,
        length-counts test sizes listed,
      )
      | inr clear ↦ omega (
        arith,
        ap (λ b. length (cond b here [] ++ tail)) clear,
        ap one clear,
        sum_by-cons (λ t. one (test t)) table listed,
        length-counts test sizes listed,
      )
    ]

length-header : (model : Metadata) → length (header_bytes model) ≡ header_size (count_by (has_rows model) tables)
unfolding header_bytes
length-header model =
    let sizes = sizes_of model in
    let prefix = (0 ∷ 0 ∷ 0 ∷ 0 ∷ []) ++ (2 ∷ 0 ∷ sizes.heap_sizes ∷ 1 ∷ []) ++ number_bytes 8 (bits_of (has_rows model) tables) ++ number_bytes 8 sizes.sorted in
    omega (arith, length-append prefix (counts_bytes (has_rows model) sizes tables), length-counts (has_rows model) sizes tables)

-- ---- the sizes of a model

pub count_is : (model : Metadata) (table : TableId) → count_of (sizes_of model) table ≡ count_in model table
unfolding sizes_of
count_is model table =
    get_or-map (count_in model) tables (table_index_of table) Module 0 (omega (arith, table_index_below table, all_tables)) ∙ ap (count_in model) (table_at_index table)

body_is : (model : Metadata) → (sizes_of model).body ≡ header_size (count_by (has_rows model) tables)
unfolding sizes_of
body_is model = refl

-- the numbers of a model as one list can be found again by table, row and column
pub record AreFound (flat : List (List (List ℕ)) → List ℕ) : Type 0 where
  pub back : (model : Metadata) (sizes : Sizes) → ((table : TableId) → count_of sizes table ≡ count_in model table) → tables_in sizes tables (flat (numbers model)) ≡ numbers model
  pub many : (model : Metadata) (sizes : Sizes) → ((table : TableId) → count_of sizes table ≡ count_in model table) → length (flat (numbers model)) ≡ sum_by (cells_of sizes) tables

-- the header and the rows end at the end of the tables
pub stream_long : {flat : List (List (List ℕ)) → List ℕ} → AreFound flat → (model : Metadata)
    → length (header_bytes model ++ tables_bytes (sizes_of model) tables (numbers model)) ≡ tables_end (sizes_of model)
unfolding tables_size
stream_long {flat} found model =
    let sizes = sizes_of model in
    let count = count_is model in
    let rows = ap (λ rows. length (tables_bytes sizes tables rows)) (found.back model sizes count) in
    omega (
      arith,
      length-append (header_bytes model) (tables_bytes sizes tables (numbers model)),
      length-header model,
      body_is model,
      rows,
      length-tables sizes tables (flat (numbers model)) (found.many model sizes count),
    )

-- ---- sizes with the same counts and the same widths

pub record AreAlike (sizes others : Sizes) : Type 0 where
  pub counts : (table : TableId) → count_of sizes table ≡ count_of others table
  pub widths : (column : Column) → width_of sizes column ≡ width_of others column
  pub body : sizes.body ≡ others.body

-- the tables end at the same offset
pub end_alike : (sizes others : Sizes) → AreAlike sizes others → tables_end sizes ≡ tables_end others
unfolding tables_size columns_width
end_alike sizes others alike =
    let size : table_size sizes ≡ table_size others = fun_ext (λ table.
    ap (λ count. count * sum_by (width_of sizes) (columns_of table)) (alike.counts table)
    ∙ ap (λ (width : Column → ℕ). count_of others table * sum_by width (columns_of table)) (fun_ext alike.widths)) in
    omega (arith, alike.body, ap (λ (f : TableId → ℕ). sum_by f tables) size)
