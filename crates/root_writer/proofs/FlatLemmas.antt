-- The numbers of tables as one list, and by table, row and column.
use Rattle.root_writer.proofs.Prelude.{◌≡◌, ℕ, ◌+◌, ◌*◌, List, [], ◌∷◌, ◌++◌, length, map, take, drop, refl, sym, ap, ◌∙◌, length-append, arith, AllByRecursion, length-map, sum_by-cons, Column, TableId, tables, columns_of, Sizes, count_of, Cell, Metadata, rows_of, count_in, Pools, pools_of, cell_number, numbers_of, table_numbers, numbers}
use Rattle.std.specs.Prelude.{flat_map, sum_by}
use Rattle.std.proofs.Math.Seq.{take-append_seam, drop-append_seam}
use Rattle.root_writer.specs.Flat.{cells_of, rows_in, table_in, tables_in}
use Rattle.root_writer.specs.Numbered.{flat}
use Rattle.root_writer.proofs.Rows.{length-numbers_by}

long_rows : (pools : Pools) (columns : List Column) (rows : List (List Cell)) → AllByRecursion (λ row. length row ≡ length columns) (map (numbers_of pools columns) rows)
long_rows pools columns [] = tt
long_rows pools columns (row ∷ rows) = (length-numbers_by (cell_number pools) columns row, long_rows pools columns rows)

-- ---- rows

more_cells : (width count : ℕ) → width + width * count ≡ width * (count + 1)
more_cells width count = omega arith

length-flat : (width : ℕ) (rows : List (List ℕ)) → AllByRecursion (λ row. length row ≡ width) rows → length (flat_map (λ (row : List ℕ). row) rows) ≡ width * length rows
length-flat width [] long = omega arith
length-flat width (row ∷ rows) long =
    omega (arith, length-append row (flat_map (λ (row : List ℕ). row) rows), long.0, length-flat width rows long.1, more_cells width (length rows))

rows_back : (width : ℕ) (rows : List (List ℕ)) → AllByRecursion (λ row. length row ≡ width) rows → rows_in width (length rows) (flat_map (λ (row : List ℕ). row) rows) ≡ rows
rows_back width [] long = refl
rows_back width (row ∷ rows) long =
    let tail = flat_map (λ (row : List ℕ). row) rows in
    ap (λ n. take n (row ++ tail) ∷ rows_in width (length rows) (drop n (row ++ tail))) (sym long.0)
    ∙ ap (λ here. here ∷ rows_in width (length rows) (drop (length row) (row ++ tail))) (take-append_seam row tail)
    ∙ ap (λ list. row ∷ rows_in width (length rows) list) (drop-append_seam row tail)
    ∙ ap (λ list. row ∷ list) (rows_back width rows long.1)

-- ---- tables

module _ (model : Metadata) (sizes : Sizes) (same : (table : TableId) → count_of sizes table ≡ count_in model table) where
  count_is : (table : TableId) → length (table_numbers model table) ≡ count_of sizes table
  count_is table = length-map (rows_of model table) (numbers_of (pools_of model) (columns_of table)) ∙ sym (same table)

  here_long : (table : TableId) → length (flat_map (λ (row : List ℕ). row) (table_numbers model table)) ≡ cells_of sizes table
  here_long table =
      length-flat (length (columns_of table)) (table_numbers model table) (long_rows (pools_of model) (columns_of table) (rows_of model table))
      ∙ ap (λ n. length (columns_of table) * n) (count_is table)

  table_back : (table : TableId) → table_in sizes table (flat_map (λ (row : List ℕ). row) (table_numbers model table)) ≡ table_numbers model table
  table_back table =
      ap (λ n. rows_in (length (columns_of table)) n (flat_map (λ (row : List ℕ). row) (table_numbers model table))) (sym (count_is table))
      ∙ rows_back (length (columns_of table)) (table_numbers model table) (long_rows (pools_of model) (columns_of table) (rows_of model table))

  listed_back : (listed : List TableId) → tables_in sizes listed (flat (map (table_numbers model) listed)) ≡ map (table_numbers model) listed
  listed_back [] = refl
  listed_back (table ∷ listed) =
      let here = flat_map (λ (row : List ℕ). row) (table_numbers model table) in
      let tail = flat (map (table_numbers model) listed) in
      ap (λ n. table_in sizes table (take n (here ++ tail)) ∷ tables_in sizes listed (drop n (here ++ tail))) (sym (here_long table))
      ∙ ap (λ list. table_in sizes table list ∷ tables_in sizes listed (drop (length here) (here ++ tail))) (take-append_seam here tail)
      ∙ ap (λ list. table_in sizes table here ∷ tables_in sizes listed list) (drop-append_seam here tail)
      ∙ ap (λ rows. rows ∷ tables_in sizes listed tail) (table_back table)
      ∙ ap (λ more. table_numbers model table ∷ more) (listed_back listed)

  listed_long : (listed : List TableId) → length (flat (map (table_numbers model) listed)) ≡ sum_by (cells_of sizes) listed
  listed_long [] = refl
  listed_long (table ∷ listed) =
      let here = flat_map (λ (row : List ℕ). row) (table_numbers model table) in
      let tail = flat (map (table_numbers model) listed) in
      omega (arith, length-append here tail, here_long table, listed_long listed, sum_by-cons (cells_of sizes) table listed)

  pub numbers_back : tables_in sizes tables (flat (numbers model)) ≡ numbers model
  unfolding numbers
  numbers_back = listed_back tables

  pub numbers_long : length (flat (numbers model)) ≡ sum_by (cells_of sizes) tables
  unfolding numbers
  numbers_long = listed_long tables
