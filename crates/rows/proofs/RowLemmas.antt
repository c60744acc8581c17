-- The bytes of a row, column by column.
use Rattle.rows.proofs.Prelude.{◌≡◌, ℕ, zero, suc, ◌+◌, ◌^◌, ◌<◌, ◌≤◌, List, [], ◌∷◌, ◌++◌, take, drop, length, get_or, refl, sym, ◌∙◌, ap, append_assoc, length-append, arith, drop_all, drop_more, take_all, sum_by-cons, sum_by-drop_more, little_endian, part, TableId, Column, columns_of, col, Sizes, width_of, columns_width, offset_in_row, number_bytes, row_bytes, FitRow, cell_width}
use Rattle.table_schema.specs.declared.column.ColumnKind.TheVariants as kind
use Rattle.rows.proofs.BytesLemmas.{Follows, follows_within, part_follows, length-number_bytes, number_again}

-- a row has one number for each column
pub length_of_fit : (sizes : Sizes) (columns : List Column) (numbers : List ℕ) → FitRow sizes columns numbers → length numbers ≡ length columns
length_of_fit sizes [] [] fit = refl
length_of_fit sizes [] (number ∷ numbers) fit = absurd fit
length_of_fit sizes (column ∷ columns) [] fit = absurd fit
length_of_fit sizes (column ∷ columns) (number ∷ numbers) fit = ap suc (length_of_fit sizes columns numbers fit.1)

-- each number fits the width of its column
pub fit_at : (sizes : Sizes) (columns : List Column) (numbers : List ℕ) (i : ℕ) (none : Column) → FitRow sizes columns numbers → i < length columns → get_or numbers i 0 < 256 ^ width_of sizes (get_or columns i none)
fit_at sizes [] numbers i none fit h = absurd (omega arith)
fit_at sizes (column ∷ columns) [] i none fit h = absurd fit
fit_at sizes (column ∷ columns) (number ∷ numbers) zero none fit h = fit.0
fit_at sizes (column ∷ columns) (number ∷ numbers) (suc i) none fit h = fit_at sizes columns numbers i none fit.1 (omega arith)

-- the number of bytes of the first columns
pub columns_length : (sizes : Sizes) (columns : List Column) (numbers : List ℕ) (i : ℕ) → length columns ≤ length numbers → length (row_bytes sizes (take i columns) numbers) ≡ columns_width sizes (take i columns)
unfolding columns_width
columns_length sizes columns numbers zero long = refl
columns_length sizes [] numbers (suc i) long = refl
columns_length sizes (column ∷ columns) [] (suc i) long = absurd (omega arith)
columns_length sizes (column ∷ columns) (number ∷ numbers) (suc i) long =
    let here = length-number_bytes (width_of sizes column) number in
    let tail = columns_length sizes columns numbers i (omega arith) in
    omega (arith, length-append (number_bytes (width_of sizes column) number) (row_bytes sizes (take i columns) numbers), sum_by-cons (width_of sizes) column (take i columns))

-- the number of bytes of all columns
pub row_length : (sizes : Sizes) (columns : List Column) (numbers : List ℕ) → FitRow sizes columns numbers → length (row_bytes sizes columns numbers) ≡ columns_width sizes columns
row_length sizes columns numbers fit =
    let many = length_of_fit sizes columns numbers fit in
    let all : take (length columns) columns ≡ columns = take_all (length columns) columns (omega arith) in
    rw all at (columns_length sizes columns numbers (length columns) (omega arith))

-- a number follows those of the columns before its own
pub number_follows : (sizes : Sizes) (columns : List Column) (numbers : List ℕ) (i : ℕ) (none : Column) → FitRow sizes columns numbers → i < length columns
    → Follows (row_bytes sizes columns numbers) (row_bytes sizes (take i columns) numbers) (number_bytes (width_of sizes (get_or columns i none)) (get_or numbers i 0))
number_follows sizes [] numbers i none fit h = absurd (omega arith)
number_follows sizes (column ∷ columns) [] i none fit h = absurd fit
number_follows sizes (column ∷ columns) (number ∷ numbers) zero none fit h = record { after = row_bytes sizes columns numbers; split = refl }
number_follows sizes (column ∷ columns) (number ∷ numbers) (suc i) none fit h =
    let next = number_follows sizes columns numbers i none fit.1 (omega arith) in
    let here = number_bytes (width_of sizes column) number in
    record { after = next.after; split = ap (λ l. here ++ l) next.split ∙ sym (append_assoc here _ _) }

-- so a row that is written is read back
pub row_again : (sizes : Sizes) (table : TableId) (numbers before after : List ℕ) → FitRow sizes (columns_of table) numbers → (column : ℕ) → column < length (columns_of table)
    → little_endian (part (before ++ row_bytes sizes (columns_of table) numbers ++ after) (length before + offset_in_row sizes table column) (cell_width sizes table column)) ≡ get_or numbers column 0
row_again sizes table numbers before after fit column h =
    let columns = columns_of table in
    let none = col kind.U8 in
    let row = row_bytes sizes columns numbers in
    let columns_before = row_bytes sizes (take column columns) numbers in
    let width = cell_width sizes table column in
    let number = get_or numbers column 0 in
    let outside : Follows (before ++ row ++ after) before row = record { after = after; split = append_assoc before row after } in
    let cell = follows_within _ before row columns_before (number_bytes width number) outside (number_follows sizes columns numbers column none fit h) in
    let many = length_of_fit sizes columns numbers fit in
    let long = columns_length sizes columns numbers column (omega arith) in
    ap little_endian (part_follows _ (before ++ columns_before) (number_bytes width number) (length before + offset_in_row sizes table column) width cell (omega (arith, length-append before columns_before)) (length-number_bytes width number))
    ∙ number_again width number (fit_at sizes columns numbers column none fit h)

-- the columns that are left: the next one, and those after it
pub row_more : (sizes : Sizes) (columns : List Column) (numbers : List ℕ) (i : ℕ) (none : Column) → i < length columns → i < length numbers
    → row_bytes sizes (drop i columns) (drop i numbers) ≡ number_bytes (width_of sizes (get_or columns i none)) (get_or numbers i 0) ++ row_bytes sizes (drop (i + 1) columns) (drop (i + 1) numbers)
row_more sizes columns numbers i none h k =
    let column : drop i columns ≡ get_or columns i none ∷ drop (i + 1) columns = drop_more columns i none h in
    let number : drop i numbers ≡ get_or numbers i 0 ∷ drop (i + 1) numbers = drop_more numbers i 0 k in
    rw (column, number) refl

pub width_more : (sizes : Sizes) (columns : List Column) (i : ℕ) (none : Column) → i < length columns
    → columns_width sizes (drop i columns) ≡ width_of sizes (get_or columns i none) + columns_width sizes (drop (i + 1) columns)
unfolding columns_width
width_more sizes columns i none h = sum_by-drop_more (width_of sizes) columns i none h

-- none are left after the last column
pub width_none : (sizes : Sizes) (columns : List Column) (i : ℕ) → length columns ≤ i → columns_width sizes (drop i columns) ≡ 0
unfolding columns_width
width_none sizes columns i h = ap (columns_width sizes) (drop_all i columns h)
