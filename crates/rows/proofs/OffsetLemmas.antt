-- The offset of a cell is the length of what precedes it.
use Rattle.rows.proofs.Prelude.{◌≡◌, ℕ, zero, suc, ◌+◌, ◌-◌, ◌*◌, ◌<◌, ◌≤◌, Bool, true, false, cond, eqb, List, [], ◌∷◌, ◌++◌, take, drop, map, length, get_or, refl, sym, ◌∙◌, ap, length-append, length-drop, arith, add-one, eqb-true, take_all, take-take, length-take-le, drop-drop, drop-take, get_or-drop, mul-le, part, sum_by-cons, TableId, Module, Column, table_index_of, tables, columns_of, Sizes, count_of, columns_width, row_width, tables_size, table_size, cell_start, cell_width, row_bytes, rows_bytes, tables_bytes, FitRow, FitRows, FitTables, IsLaidOut, bytes_before}
use Rattle.rows.proofs.RowLemmas.{length_of_fit, columns_length, row_length}

-- the number of bytes of the first rows of a table
pub rows_length : (sizes : Sizes) (columns : List Column) (rows : List (List ℕ)) (i : ℕ) → FitRows sizes columns rows → i ≤ length rows → length (rows_bytes sizes columns (take i rows)) ≡ i * columns_width sizes columns
rows_length sizes columns rows zero fit h = omega arith
rows_length sizes columns [] (suc i) fit h = absurd (omega arith)
rows_length sizes columns (row ∷ rows) (suc i) fit h =
    let here = row_length sizes columns row fit.0 in
    let tail = rows_length sizes columns rows i fit.1 (omega arith) in
    omega (arith, length-append (row_bytes sizes columns row) (rows_bytes sizes columns (take i rows)))

pub row_fits : (sizes : Sizes) (columns : List Column) (rows : List (List ℕ)) (i : ℕ) → FitRows sizes columns rows → i < length rows → FitRow sizes columns (get_or rows i [])
row_fits sizes columns [] i fit h = absurd (omega arith)
row_fits sizes columns (row ∷ rows) zero fit h = fit.0
row_fits sizes columns (row ∷ rows) (suc i) fit h = row_fits sizes columns rows i fit.1 (omega arith)

-- the number of rows of each table is that of the sizes
abbrev pub AreCounted : Sizes → List TableId → List (List (List ℕ)) → Type 0
AreCounted sizes [] numbers = Unit {0}
AreCounted sizes (table ∷ listed) [] = ⊥
AreCounted sizes (table ∷ listed) (rows ∷ numbers) = (length rows ≡ count_of sizes table) × AreCounted sizes listed numbers

-- the number of bytes of the first tables
pub tables_length : (sizes : Sizes) (listed : List TableId) (numbers : List (List (List ℕ))) (k : ℕ) → FitTables sizes listed numbers → AreCounted sizes listed numbers
    → length (tables_bytes sizes (take k listed) numbers) ≡ tables_size sizes (take k listed)
unfolding tables_size
tables_length sizes listed numbers zero fit counted = refl
tables_length sizes [] numbers (suc k) fit counted = refl
tables_length sizes (table ∷ listed) [] (suc k) fit counted = absurd fit
tables_length sizes (table ∷ listed) (rows ∷ numbers) (suc k) fit counted =
    let columns = columns_of table in
    let all : take (length rows) rows ≡ rows = take_all (length rows) rows (omega arith) in
    let here : length (rows_bytes sizes columns rows) ≡ length rows * columns_width sizes columns = rw all at (rows_length sizes columns rows (length rows) fit.0 (omega arith)) in
    let same : length rows * columns_width sizes columns ≡ table_size sizes table = ap (λ n. n * columns_width sizes columns) counted.0 in
    let tail = tables_length sizes listed numbers k fit.1 counted.1 in
    omega (arith, length-append (rows_bytes sizes columns rows) (tables_bytes sizes (take k listed) numbers), sum_by-cons (table_size sizes) table (take k listed))

-- the rows of a table among those of all tables
pub record HasRows (sizes : Sizes) (table : TableId) (rows : List (List ℕ)) : Type 0 where
  pub count : length rows ≡ count_of sizes table
  pub fit : FitRows sizes (columns_of table) rows

pub rows_at : (sizes : Sizes) (listed : List TableId) (numbers : List (List (List ℕ))) (k : ℕ) (none : TableId) → FitTables sizes listed numbers → AreCounted sizes listed numbers → k < length listed
    → HasRows sizes (get_or listed k none) (get_or numbers k [])
rows_at sizes [] numbers k none fit counted h = absurd (omega arith)
rows_at sizes (table ∷ listed) [] k none fit counted h = absurd fit
rows_at sizes (table ∷ listed) (rows ∷ numbers) zero none fit counted h = record { count = counted.0; fit = fit.0 }
rows_at sizes (table ∷ listed) (rows ∷ numbers) (suc k) none fit counted h = rows_at sizes listed numbers k none fit.1 counted.1 (omega arith)

-- the tables have table indexes that increase by one
are_in_order : ℕ → List TableId → Bool
are_in_order i [] = true
are_in_order i (table ∷ listed) = cond (eqb (table_index_of table) i) (are_in_order (suc i) listed) false

tables_in_order : are_in_order 0 tables ≡ true
unfolding tables are_in_order
tables_in_order = refl

both : (a b : Bool) → cond a b false ≡ true → (a ≡ true) × (b ≡ true)
both true b e = (refl, e)
both false b e = cc

-- so the row counts of the sizes are the numbers of rows
counted_from : (sizes : Sizes) (listed : List TableId) (numbers : List (List (List ℕ))) (i : ℕ) → are_in_order i listed ≡ true → FitTables sizes listed numbers → drop i sizes.counts ≡ map length numbers → AreCounted sizes listed numbers
unfolding are_in_order
counted_from sizes [] numbers i order fit counts = tt
counted_from sizes (table ∷ listed) [] i order fit counts = absurd fit
counted_from sizes (table ∷ listed) (rows ∷ numbers) i order fit counts =
    let tests = both (eqb (table_index_of table) i) (are_in_order (suc i) listed) order in
    let table_index : table_index_of table ≡ i = eqb-true (table_index_of table) i tests.0 in
    let first : get_or (drop i sizes.counts) 0 0 ≡ length rows = ap (λ (l : List ℕ). get_or l 0 0) counts in
    let here : get_or (drop i sizes.counts) 0 0 ≡ get_or sizes.counts (i + 0) 0 = get_or-drop i sizes.counts 0 0 in
    let offset : i + 0 ≡ table_index_of table = omega arith in
    let tail : drop 1 (drop i sizes.counts) ≡ map length numbers = ap (drop 1) counts in
    let next : drop (suc i) sizes.counts ≡ drop 1 (drop i sizes.counts) = ap (λ n. drop n sizes.counts) (sym (add-one i)) ∙ sym (drop-drop 1 i sizes.counts) in
    (sym first ∙ here ∙ ap (λ n. get_or sizes.counts n 0) offset, counted_from sizes listed numbers (suc i) tests.1 fit.1 (next ∙ tail))

-- a cell follows the header and all cells before it
pub offset_behind : (stream : List ℕ) (sizes : Sizes) (numbers : List (List (List ℕ))) (table : TableId) (row column : ℕ) → table_index_of table < length tables → get_or tables (table_index_of table) Module ≡ table
    → 1 ≤ row → row ≤ count_of sizes table → column < length (columns_of table) → IsLaidOut stream sizes numbers
    → cell_start sizes table row column ≡ sizes.body + length (bytes_before sizes numbers table row column)
offset_behind stream sizes numbers table row column below listed first last h laid =
    let k = table_index_of table in
    let columns = columns_of table in
    let counted = counted_from sizes tables numbers 0 tables_in_order laid.fit laid.counts in
    let rows = get_or numbers k [] in
    let there = rw listed at (rows_at sizes tables numbers k Module laid.fit counted below) in
    let count = there.count in
    let cells = get_or rows (row - 1) [] in
    let many = length_of_fit sizes columns cells (row_fits sizes columns rows (row - 1) there.fit (omega arith)) in
    let tables_before = tables_bytes sizes (take k tables) numbers in
    let rows_before = rows_bytes sizes columns (take (row - 1) rows) in
    let columns_before = row_bytes sizes (take column columns) cells in
    let tables_long = tables_length sizes tables numbers k laid.fit counted in
    let rows_long = rows_length sizes columns rows (row - 1) there.fit (omega arith) in
    let columns_long = columns_length sizes columns cells column (omega arith) in
    omega (arith, length-append (tables_before ++ rows_before) columns_before, length-append tables_before rows_before)

-- a part of a part is a part of the whole
pub part_of_part : (whole : List ℕ) (start count offset width : ℕ) → offset + width ≤ count
    → part (part whole start count) offset width ≡ part whole (start + offset) width
part_of_part whole start count offset width within =
    ap (λ n. take width (drop offset (take n (drop start whole)))) (omega arith)
    ∙ ap (take width) (drop-take offset (width + (count - offset - width)) (drop start whole))
    ∙ take-take width (width + (count - offset - width)) (drop offset (drop start whole)) (omega arith)
    ∙ ap (take width) (drop-drop offset start whole)

-- the cells of a column are within the bytes from the first of them to the end of the last
module _ (whole bytes : List ℕ) (sizes : Sizes) (table : TableId) (column count step width begin last_begin row : ℕ)
    (is_step : step ≡ row_width sizes table) (is_width : width ≡ cell_width sizes table column)
    (is_begin : begin ≡ cell_start sizes table 1 column) (is_last : last_begin ≡ cell_start sizes table count column)
    (within : last_begin + width ≤ length whole) (is_bytes : bytes ≡ part whole begin (last_begin + width - begin))
    (first : 1 ≤ row) (last : row ≤ count) where
  fits : begin + ((row - 1) * step + width) ≤ last_begin + width
  fits =
      let before = mul-le (row - 1) (row_width sizes table) (count - 1) (row_width sizes table) (omega arith) (omega arith) in
      rw is_step (omega (arith, before, is_begin, is_last))

  pub cell_within : (row - 1) * step + width ≤ length bytes
  cell_within =
      rw is_bytes (omega (arith, fits, length-take-le (last_begin + width - begin) (drop begin whole) (omega (arith, within, length-drop begin whole))))

  pub cell_in_part : part bytes ((row - 1) * step) width ≡ part whole (cell_start sizes table row column) (cell_width sizes table column)
  cell_in_part =
      ap (λ l. part l ((row - 1) * step) width) is_bytes
      ∙ part_of_part whole begin (last_begin + width - begin) ((row - 1) * step) width (omega (arith, fits))
      ∙ ap (λ w. part whole (begin + (row - 1) * step) w) is_width
      ∙ ap (λ offset. part whole offset (cell_width sizes table column)) (rw is_step (omega (arith, is_begin)))
