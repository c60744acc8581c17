-- The fields of a row: each number as its low bytes, in widths that depend on the row counts and HeapSizes.
use Rattle.schema.proofs.Prelude.{◌≡◌, ℕ, zero, suc, ◌+◌, ◌-◌, ◌*◌, ◌/◌, ◌%◌, ◌^◌, ◌<◌, ltb, eqb, ◌&&◌, Option, Some, None, List, [], ◌∷◌, ◌++◌, length, get_or, refl, sym, ap, ◌∙◌, arith, mul_assoc, list_all, div-add-mod', div-mul-add, mod-mul-add, mod_below, mod-lt, one-le-pow, pow-suc, TableId, Column, ColumnKind, columns_of, Sizes, SameCounts, count_of, narrow_or_wide, heap_width, row_index_width, is_below, kind_width, width_of, number_bytes, row_bytes, rows_bytes, tables_bytes, fields_of, FitRow}
use Rattle.table_schema.specs.declared.column.ColumnKind.TheVariants as kind
use Rattle.table_schema.specs.CodedIndexes.{tables_of, tag_bits}

-- ---- low bytes

-- the low bytes are the lowest byte, and the low bytes of the remaining number
low_split : (width number : ℕ) → number % 256 ^ suc width ≡ number / 256 % 256 ^ width * 256 + number % 256
low_split width number =
    let p = 256 ^ width in
    let q = number / 256 in
    let some : 0 < p = one-le-pow width 256 (omega arith) in
    let tail = div-add-mod' q p in
    let whole = div-add-mod' number 256 in
    let less = mod_below q p some in
    let moved : q / p * (p * 256) ≡ q / p * p * 256 = sym (mul_assoc (q / p) p 256) in
    let is : number ≡ q / p * (p * 256) + (q % p * 256 + number % 256) = omega (arith, tail, whole, moved) in
    let fits : q % p * 256 + number % 256 < p * 256 = omega (arith, less) in
    ap (λ n. number % n) (pow-suc 256 width) ∙ ap (λ n. n % (p * 256)) is ∙ mod-mul-add (q / p) (p * 256) (q % p * 256 + number % 256) fits

low_first : (width number : ℕ) → number % 256 ^ suc width % 256 ≡ number % 256
low_first width number = ap (λ n. n % 256) (low_split width number)
    ∙ mod-mul-add (number / 256 % 256 ^ width) 256 (number % 256) (mod_below number 256 (omega arith))

low_tail : (width number : ℕ) → number % 256 ^ suc width / 256 ≡ number / 256 % 256 ^ width
low_tail width number = ap (λ n. n / 256) (low_split width number)
    ∙ div-mul-add (number / 256 % 256 ^ width) 256 (number % 256) (mod_below number 256 (omega arith))

pub low_bytes : (width number : ℕ) → number_bytes width (number % 256 ^ width) ≡ number_bytes width number
low_bytes zero number = refl
low_bytes (suc width) number =
    ap (λ n. n ∷ number_bytes width (number % 256 ^ suc width / 256)) (low_first width number)
    ∙ ap (λ l. number % 256 ∷ l) (ap (number_bytes width) (low_tail width number) ∙ low_bytes width (number / 256))

pub low_row : (sizes : Sizes) (columns : List Column) (numbers : List ℕ) → row_bytes sizes columns (fields_of sizes columns numbers) ≡ row_bytes sizes columns numbers
low_row sizes [] numbers = refl
low_row sizes (column ∷ columns) [] = refl
low_row sizes (column ∷ columns) (number ∷ numbers) =
    ap (λ l. l ++ row_bytes sizes columns (fields_of sizes columns numbers)) (low_bytes (width_of sizes column) number)
    ∙ ap (λ l. number_bytes (width_of sizes column) number ++ l) (low_row sizes columns numbers)

pub fields_fit : (sizes : Sizes) (columns : List Column) (numbers : List ℕ) → length numbers ≡ length columns → FitRow sizes columns (fields_of sizes columns numbers)
fields_fit sizes [] numbers e = tt
fields_fit sizes (column ∷ columns) [] e = absurd (omega arith)
fields_fit sizes (column ∷ columns) (number ∷ numbers) e =
    (mod-lt number (one-le-pow (width_of sizes column) 256 (omega arith)), fields_fit sizes columns numbers (omega arith))

pub length-fields_of : (sizes : Sizes) (columns : List Column) (numbers : List ℕ) → length numbers ≡ length columns → length (fields_of sizes columns numbers) ≡ length columns
length-fields_of sizes [] numbers e = refl
length-fields_of sizes (column ∷ columns) [] e = absurd (omega arith)
length-fields_of sizes (column ∷ columns) (number ∷ numbers) e = ap suc (length-fields_of sizes columns numbers (omega arith))

pub field_at : (sizes : Sizes) (columns : List Column) (numbers : List ℕ) (i : ℕ) (none : Column) → length numbers ≡ length columns → i < length columns
    → get_or (fields_of sizes columns numbers) i 0 ≡ get_or numbers i 0 % 256 ^ width_of sizes (get_or columns i none)
field_at sizes [] numbers i none e h = absurd (omega arith)
field_at sizes (column ∷ columns) [] i none e h = absurd (omega arith)
field_at sizes (column ∷ columns) (number ∷ numbers) zero none e h = refl
field_at sizes (column ∷ columns) (number ∷ numbers) (suc i) none e h = field_at sizes columns numbers i none (omega arith) (omega arith)

-- ---- widths

heap_same : (sizes others : Sizes) (bit : ℕ) → SameCounts sizes others → heap_width sizes bit ≡ heap_width others bit
heap_same sizes others bit same = ap (λ (h : ℕ). narrow_or_wide (eqb (h / bit % 2) 0)) same.heap_sizes

row_index_same : (sizes others : Sizes) (table : TableId) → SameCounts sizes others → row_index_width sizes table ≡ row_index_width others table
row_index_same sizes others table same = ap (λ (count : ℕ). narrow_or_wide (ltb count (2 ^ 16))) (same.counts table)

below_same : (sizes others : Sizes) (limit : ℕ) (listed : List (Option TableId)) → SameCounts sizes others → list_all (is_below sizes limit) listed ≡ list_all (is_below others limit) listed
below_same sizes others limit [] same = refl
below_same sizes others limit (None ∷ listed) same = below_same sizes others limit listed same
below_same sizes others limit (Some table ∷ listed) same =
    ap (λ (count : ℕ). ltb count limit && list_all (is_below sizes limit) listed) (same.counts table)
    ∙ ap (λ b. ltb (count_of others table) limit && b) (below_same sizes others limit listed same)

kind_same : (sizes others : Sizes) (of : ColumnKind) → SameCounts sizes others → kind_width sizes of ≡ kind_width others of
kind_same sizes others kind.Text same = heap_same sizes others 1 same
kind_same sizes others kind.Guid same = heap_same sizes others 2 same
kind_same sizes others kind.Blob same = heap_same sizes others 4 same
kind_same sizes others (kind.Signature signature) same = heap_same sizes others 4 same
kind_same sizes others (kind.Row table) same = row_index_same sizes others table same
kind_same sizes others (kind.List table) same = row_index_same sizes others table same
kind_same sizes others (kind.Coded coded) same = ap narrow_or_wide (below_same sizes others (2 ^ (16 - tag_bits coded)) (tables_of coded) same)
kind_same sizes others _ same = refl

pub width_same : (sizes others : Sizes) → SameCounts sizes others → (column : Column) → width_of sizes column ≡ width_of others column
width_same sizes others same column = kind_same sizes others column.kind same

-- ---- the bytes that depend on them

pub fit_same : (sizes others : Sizes) → SameCounts sizes others
    → (columns : List Column) (numbers : List ℕ) → FitRow sizes columns numbers → FitRow others columns numbers
fit_same sizes others same [] [] fit = tt
fit_same sizes others same [] (number ∷ numbers) fit = fit
fit_same sizes others same (column ∷ columns) [] fit = fit
fit_same sizes others same (column ∷ columns) (number ∷ numbers) fit =
    (rw (← width_same sizes others same column) fit.0, fit_same sizes others same columns numbers fit.1)

pub row_same : (sizes others : Sizes) → SameCounts sizes others
    → (columns : List Column) (numbers : List ℕ) → row_bytes sizes columns numbers ≡ row_bytes others columns numbers
row_same sizes others same [] numbers = refl
row_same sizes others same (column ∷ columns) [] = refl
row_same sizes others same (column ∷ columns) (number ∷ numbers) =
    ap (λ (width : ℕ). number_bytes width number ++ row_bytes sizes columns numbers) (width_same sizes others same column)
    ∙ ap (λ l. number_bytes (width_of others column) number ++ l) (row_same sizes others same columns numbers)

rows_same : (sizes others : Sizes) → SameCounts sizes others
    → (columns : List Column) (rows : List (List ℕ)) → rows_bytes sizes columns rows ≡ rows_bytes others columns rows
rows_same sizes others same columns [] = refl
rows_same sizes others same columns (row ∷ rows) =
    ap (λ l. l ++ rows_bytes sizes columns rows) (row_same sizes others same columns row)
    ∙ ap (λ l. row_bytes others columns row ++ l) (rows_same sizes others same columns rows)

pub tables_same : (sizes others : Sizes) → SameCounts sizes others
    → (listed : List TableId) (numbers : List (List (List ℕ))) → tables_bytes sizes listed numbers ≡ tables_bytes others listed numbers
tables_same sizes others same [] numbers = refl
tables_same sizes others same (table ∷ listed) [] = refl
tables_same sizes others same (table ∷ listed) (rows ∷ numbers) =
    ap (λ l. l ++ tables_bytes sizes listed numbers) (rows_same sizes others same (columns_of table) rows)
    ∙ ap (λ l. rows_bytes others (columns_of table) rows ++ l) (tables_same sizes others same listed numbers)
