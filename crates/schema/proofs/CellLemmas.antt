-- Cells, rows and tables one after another.
use Rattle.schema.proofs.Prelude.{◌≡◌, ℕ, zero, suc, ◌+◌, ◌*◌, ◌^◌, ◌<◌, ◌≤◌, List, [], ◌∷◌, ◌++◌, take, drop, length, get_or, refl, sym, ◌∙◌, ap, append_assoc, length-append, add-zero, add_assoc, zero-mul, arith, drop-drop, drop_at, take-append-drop, sum_by-cons, little_endian, part, TableId, Column, columns_of, Sizes, count_of, width_of, columns_width, tables_size, table_size, row_width, number_bytes, row_bytes, FitRow, rows_bytes, FitRows, tables_bytes, FitTables}
use Rattle.schema.proofs.NumberLemmas.{IsBytes, length-number_bytes, part_of_number, part_fits}

-- the bytes from an offset on begin with these
abbrev pub Begins : List ℕ → ℕ → List ℕ → Type 0
Begins bytes at prefix = (tail : List ℕ) × (drop at bytes ≡ prefix ++ tail)

-- what follows a prefix is at the offset after it
pub behind : (bytes : List ℕ) (at width : ℕ) (prefix back : List ℕ) → length prefix ≡ width → Begins bytes at (prefix ++ back) → Begins bytes (at + width) back
behind bytes at width prefix back e begins = (
  begins.0,
  sym (drop-drop width at bytes) ∙ ap (drop width) (begins.1 ∙ append_assoc prefix back begins.0) ∙ drop_at prefix (back ++ begins.0) width e,
)

pub in_prefix : (bytes : List ℕ) (at : ℕ) (prefix back : List ℕ) → Begins bytes at (prefix ++ back) → Begins bytes at prefix
in_prefix bytes at prefix back begins = (back ++ begins.0, begins.1 ∙ append_assoc prefix back begins.0)

-- widths and sizes, one by one
pub columns_width-cons : (sizes : Sizes) (column : Column) (columns : List Column) → columns_width sizes (column ∷ columns) ≡ width_of sizes column + columns_width sizes columns
unfolding columns_width
columns_width-cons sizes column columns = sum_by-cons (width_of sizes) column columns

pub columns_width-nil : (sizes : Sizes) → columns_width sizes [] ≡ 0
unfolding columns_width
columns_width-nil sizes = refl

pub tables_size-cons : (sizes : Sizes) (table : TableId) (listed : List TableId) → tables_size sizes (table ∷ listed) ≡ table_size sizes table + tables_size sizes listed
unfolding tables_size
tables_size-cons sizes table listed = sum_by-cons (table_size sizes) table listed

pub tables_size-nil : (sizes : Sizes) → tables_size sizes [] ≡ 0
unfolding tables_size
tables_size-nil sizes = refl

-- each table has the number of rows that its count gives
abbrev pub AreCounted : Sizes → List TableId → List (List (List ℕ)) → Type 0
AreCounted sizes [] [] = Unit {0}
AreCounted sizes [] (rows ∷ numbers) = ⊥
AreCounted sizes (table ∷ listed) [] = ⊥
AreCounted sizes (table ∷ listed) (rows ∷ numbers) = (length rows ≡ count_of sizes table) × AreCounted sizes listed numbers

length-row_bytes : (sizes : Sizes) (columns : List Column) (numbers : List ℕ) → FitRow sizes columns numbers → length (row_bytes sizes columns numbers) ≡ columns_width sizes columns
length-row_bytes sizes [] [] fit = sym (columns_width-nil sizes)
length-row_bytes sizes [] (number ∷ numbers) fit = absurd fit
length-row_bytes sizes (column ∷ columns) [] fit = absurd fit
length-row_bytes sizes (column ∷ columns) (number ∷ numbers) fit =
    omega (
      arith,
      length-append (number_bytes (width_of sizes column) number) (row_bytes sizes columns numbers),
      length-number_bytes (width_of sizes column) number,
      length-row_bytes sizes columns numbers fit.1,
      columns_width-cons sizes column columns,
    )

length-rows_bytes : (sizes : Sizes) (columns : List Column) (rows : List (List ℕ)) → FitRows sizes columns rows → length (rows_bytes sizes columns rows) ≡ length rows * columns_width sizes columns
length-rows_bytes sizes columns [] fit = omega arith
length-rows_bytes sizes columns (row ∷ rows) fit =
    omega (arith, length-append (row_bytes sizes columns row) (rows_bytes sizes columns rows), length-row_bytes sizes columns row fit.0, length-rows_bytes sizes columns rows fit.1)

length-table : (sizes : Sizes) (table : TableId) (rows : List (List ℕ)) → FitRows sizes (columns_of table) rows → length rows ≡ count_of sizes table → length (rows_bytes sizes (columns_of table) rows) ≡ table_size sizes table
length-table sizes table rows fit e = length-rows_bytes sizes (columns_of table) rows fit ∙ ap (λ n. n * row_width sizes table) e

pub length-tables_bytes : (sizes : Sizes) (listed : List TableId) (numbers : List (List (List ℕ))) → FitTables sizes listed numbers → AreCounted sizes listed numbers → length (tables_bytes sizes listed numbers) ≡ tables_size sizes listed
length-tables_bytes sizes [] [] fit counted = sym (tables_size-nil sizes)
length-tables_bytes sizes [] (rows ∷ numbers) fit counted = absurd fit
length-tables_bytes sizes (table ∷ listed) [] fit counted = absurd fit
length-tables_bytes sizes (table ∷ listed) (rows ∷ numbers) fit counted =
    omega (
      arith,
      length-append (rows_bytes sizes (columns_of table) rows) (tables_bytes sizes listed numbers),
      length-table sizes table rows fit.0 counted.0,
      length-tables_bytes sizes listed numbers fit.1 counted.1,
      tables_size-cons sizes table listed,
    )

-- a cell in its row
pub record IsCell (sizes : Sizes) (column : Column) (number : ℕ) (bytes : List ℕ) (at : ℕ) : Type 0 where
  pub fits : number < 256 ^ width_of sizes column
  pub begins : Begins bytes at (number_bytes (width_of sizes column) number)

in_row : (sizes : Sizes) (columns : List Column) (numbers bytes : List ℕ) (at i : ℕ) (none : Column) → FitRow sizes columns numbers → Begins bytes at (row_bytes sizes columns numbers) → i < length columns
    → IsCell sizes (get_or columns i none) (get_or numbers i 0) bytes (at + columns_width sizes (take i columns))
in_row sizes [] numbers bytes at i none fit begins below = absurd (omega arith)
in_row sizes (column ∷ columns) [] bytes at i none fit begins below = absurd fit
in_row sizes (column ∷ columns) (number ∷ numbers) bytes at zero none fit begins below =
    rw (columns_width-nil sizes, add-zero) (record { fits = fit.0; begins = in_prefix bytes at (number_bytes (width_of sizes column) number) (row_bytes sizes columns numbers) begins })
in_row sizes (column ∷ columns) (number ∷ numbers) bytes at (suc i) none fit begins below =
    rw (columns_width-cons sizes column (take i columns), ← add_assoc at (width_of sizes column) (columns_width sizes (take i columns)))
    (in_row sizes columns numbers bytes (at + width_of sizes column) i none fit.1
    (behind bytes at (width_of sizes column) (number_bytes (width_of sizes column) number) (row_bytes sizes columns numbers) (length-number_bytes (width_of sizes column) number) begins) (omega arith))

-- a row in its table
pub record IsRowAt (sizes : Sizes) (columns : List Column) (row bytes : List ℕ) (at : ℕ) : Type 0 where
  pub fit : FitRow sizes columns row
  pub begins : Begins bytes at (row_bytes sizes columns row)

pub in_rows : (sizes : Sizes) (columns : List Column) (rows : List (List ℕ)) (bytes : List ℕ) (at i : ℕ) → FitRows sizes columns rows → Begins bytes at (rows_bytes sizes columns rows) → i < length rows
    → IsRowAt sizes columns (get_or rows i []) bytes (at + i * columns_width sizes columns)
in_rows sizes columns [] bytes at i fit begins below = absurd (omega arith)
in_rows sizes columns (row ∷ rows) bytes at zero fit begins below =
    rw (zero-mul, add-zero) (record { fit = fit.0; begins = in_prefix bytes at (row_bytes sizes columns row) (rows_bytes sizes columns rows) begins })
in_rows sizes columns (row ∷ rows) bytes at (suc i) fit begins below =
    let width = columns_width sizes columns in
    let next = in_rows sizes columns rows bytes (at + width) i fit.1 (behind bytes at width (row_bytes sizes columns row) (rows_bytes sizes columns rows) (length-row_bytes sizes columns row fit.0) begins) (omega arith) in
    let offset : at + width + i * width ≡ at + suc i * width = omega arith in
    rw offset at next

-- a table among the tables
pub record IsTableAt (sizes : Sizes) (table : TableId) (rows : List (List ℕ)) (bytes : List ℕ) (at : ℕ) : Type 0 where
  pub count : length rows ≡ count_of sizes table
  pub fit : FitRows sizes (columns_of table) rows
  pub begins : Begins bytes at (rows_bytes sizes (columns_of table) rows)

pub in_tables : (sizes : Sizes) (listed : List TableId) (numbers : List (List (List ℕ))) (bytes : List ℕ) (at k : ℕ) (none : TableId) → FitTables sizes listed numbers → AreCounted sizes listed numbers
    → Begins bytes at (tables_bytes sizes listed numbers) → k < length listed → IsTableAt sizes (get_or listed k none) (get_or numbers k []) bytes (at + tables_size sizes (take k listed))
in_tables sizes [] numbers bytes at k none fit counted begins below = absurd (omega arith)
in_tables sizes (table ∷ listed) [] bytes at k none fit counted begins below = absurd fit
in_tables sizes (table ∷ listed) (rows ∷ numbers) bytes at zero none fit counted begins below =
    rw (tables_size-nil sizes, add-zero) (record { count = counted.0; fit = fit.0; begins = in_prefix bytes at (rows_bytes sizes (columns_of table) rows) (tables_bytes sizes listed numbers) begins })
in_tables sizes (table ∷ listed) (rows ∷ numbers) bytes at (suc k) none fit counted begins below =
    let size = table_size sizes table in
    rw (tables_size-cons sizes table (take k listed), ← add_assoc at size (tables_size sizes (take k listed)))
    (in_tables sizes listed numbers bytes (at + size) k none fit.1 counted.1
    (behind bytes at size (rows_bytes sizes (columns_of table) rows) (tables_bytes sizes listed numbers) (length-table sizes table rows fit.0 counted.0) begins) (omega arith))

-- a cell of the tables that begin at an offset
pub in_cells : (sizes : Sizes) (listed : List TableId) (numbers : List (List (List ℕ))) (bytes : List ℕ) (at k row column : ℕ) (table none : TableId) (no_column : Column)
    → FitTables sizes listed numbers → AreCounted sizes listed numbers → Begins bytes at (tables_bytes sizes listed numbers) → k < length listed → get_or listed k none ≡ table
    → row < count_of sizes table → column < length (columns_of table)
    → IsCell sizes (get_or (columns_of table) column no_column) (get_or (get_or (get_or numbers k []) row []) column 0) bytes
    (at + tables_size sizes (take k listed) + row * row_width sizes table + columns_width sizes (take column (columns_of table)))
in_cells sizes listed numbers bytes at k row column table none no_column fit counted begins below is few within =
    let here = rw is at (in_tables sizes listed numbers bytes at k none fit counted begins below) in
    let there = in_rows sizes (columns_of table) (get_or numbers k []) bytes (at + tables_size sizes (take k listed)) row here.fit here.begins (omega (arith, here.count)) in
    in_row sizes (columns_of table) (get_or (get_or numbers k []) row []) bytes (at + tables_size sizes (take k listed) + row * row_width sizes table) column no_column there.fit there.begins within

-- if there is room for a row, there is one
row_there : (sizes : Sizes) (columns : List Column) (bytes : List ℕ) (at : ℕ) → IsBytes bytes → at + columns_width sizes columns ≤ length bytes
    → (numbers : List ℕ) × FitRow sizes columns numbers × (drop at bytes ≡ row_bytes sizes columns numbers ++ drop (at + columns_width sizes columns) bytes)
row_there sizes [] bytes at are long = ([], tt, ap (λ n. drop n bytes) (omega (arith, columns_width-nil sizes)))
row_there sizes (column ∷ columns) bytes at are long =
    let w = width_of sizes column in
    let number = little_endian (part bytes at w) in
    let all = columns_width-cons sizes column columns in
    let stands : drop at bytes ≡ number_bytes w number ++ drop (at + w) bytes =
    sym (take-append-drop w (drop at bytes)) ∙ ap (λ (f : List ℕ). f ++ drop w (drop at bytes)) (sym (part_of_number bytes at w are (omega (arith, all)))) ∙ ap (λ (b : List ℕ). number_bytes w number ++ b) (drop-drop w at bytes) in
    let next = row_there sizes columns bytes (at + w) are (omega (arith, all)) in
    let end : at + w + columns_width sizes columns ≡ at + columns_width sizes (column ∷ columns) = omega (arith, all) in (
      number ∷ next.0,
      (part_fits bytes at w are (omega (arith, all)), next.1),
      stands ∙ ap (λ (b : List ℕ). number_bytes w number ++ b) next.2 ∙ sym (append_assoc (number_bytes w number) (row_bytes sizes columns next.0) (drop (at + w + columns_width sizes columns) bytes))
          ∙ ap (λ n. (number_bytes w number ++ row_bytes sizes columns next.0) ++ drop n bytes) end,
    )

rows_there : (sizes : Sizes) (columns : List Column) (bytes : List ℕ) (at n : ℕ) → IsBytes bytes → at + n * columns_width sizes columns ≤ length bytes
    → (rows : List (List ℕ)) × (length rows ≡ n) × FitRows sizes columns rows × (drop at bytes ≡ rows_bytes sizes columns rows ++ drop (at + n * columns_width sizes columns) bytes)
rows_there sizes columns bytes at zero are long = ([], refl, tt, ap (λ n. drop n bytes) (omega arith))
rows_there sizes columns bytes at (suc n) are long =
    let w = columns_width sizes columns in
    let all : at + w + n * w ≡ at + suc n * w = omega arith in
    let here = row_there sizes columns bytes at are (omega (arith, all)) in
    let next = rows_there sizes columns bytes (at + w) n are (omega (arith, all)) in (
      here.0 ∷ next.0,
      ap suc next.1,
      (here.1, next.2),
      here.2 ∙ ap (λ (b : List ℕ). row_bytes sizes columns here.0 ++ b) next.3 ∙ sym (append_assoc (row_bytes sizes columns here.0) (rows_bytes sizes columns next.0) (drop (at + w + n * w) bytes))
          ∙ ap (λ k. (row_bytes sizes columns here.0 ++ rows_bytes sizes columns next.0) ++ drop k bytes) all,
    )

-- if there is room for tables, there are some
pub tables_there : (sizes : Sizes) (listed : List TableId) (bytes : List ℕ) (at : ℕ) → IsBytes bytes → at + tables_size sizes listed ≤ length bytes
    → (numbers : List (List (List ℕ))) × FitTables sizes listed numbers × AreCounted sizes listed numbers × (drop at bytes ≡ tables_bytes sizes listed numbers ++ drop (at + tables_size sizes listed) bytes)
tables_there sizes [] bytes at are long = ([], tt, tt, ap (λ n. drop n bytes) (omega (arith, tables_size-nil sizes)))
tables_there sizes (table ∷ listed) bytes at are long =
    let size = table_size sizes table in
    let all = tables_size-cons sizes table listed in
    let here = rows_there sizes (columns_of table) bytes at (count_of sizes table) are (omega (arith, all)) in
    let next = tables_there sizes listed bytes (at + size) are (omega (arith, all)) in
    let end : at + size + tables_size sizes listed ≡ at + tables_size sizes (table ∷ listed) = omega (arith, all) in (
      here.0 ∷ next.0,
      (here.2, next.1),
      (here.1, next.2),
      here.3 ∙ ap (λ (b : List ℕ). rows_bytes sizes (columns_of table) here.0 ++ b) next.3 ∙ sym (append_assoc (rows_bytes sizes (columns_of table) here.0) (tables_bytes sizes listed next.0) (drop (at + size + tables_size sizes listed) bytes))
          ∙ ap (λ k. (rows_bytes sizes (columns_of table) here.0 ++ tables_bytes sizes listed next.0) ++ drop k bytes) end,
    )
