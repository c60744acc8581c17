-- The numbers and the row counts of a stream are those that are read.
use Rattle.std.proofs.Common.{◌≡◌, ◌≢◌, ℕ, zero, suc, ◌+◌, ◌-◌, ◌<◌, ◌≤◌, List, [], length, get_or, set, replicate, refl, sym, ◌∙◌, ap, arith, below_more}
use Rattle.std.proofs.lemmas.List.{same_lists, get_or-map, length-map, get_or_default, get_or-set_same, get_or-set_other}
use Rattle.std.proofs.lemmas.List.FromFn.{length-map-range_with_len, get_or-map-range_with_len}
use Rattle.schema.proofs.Prelude.{TableId, Module, table_number, table_index_of, tables, columns_of, Sizes, count_of, IsLaidOut, number_in, number_at, row_at, rows_at, numbers_at, table_index_at, table_index_below, number_below, table_at_index, length-tables, numbers_rise}
use Rattle.schema.proofs.CellLemmas.{in_tables, in_rows}
use Rattle.schema.proofs.StreamLemmas.{counted_rows, body_laid, fit_long}
use Rattle.schema.proofs.OneLemmas.{cell_laid, row_long}

-- the numbers of the table with a table index
rows_there : (stream : List ℕ) (sizes : Sizes) (k : ℕ) (none : List (List ℕ)) → k < 38 → get_or (numbers_at stream sizes) k none ≡ rows_at stream sizes (get_or tables k Module)
unfolding numbers_at
rows_there stream sizes k none below = get_or-map (rows_at stream sizes) tables k Module none (omega (arith, length-tables))

length-numbers_at : (stream : List ℕ) (sizes : Sizes) → length (numbers_at stream sizes) ≡ 38
unfolding numbers_at
length-numbers_at stream sizes = length-map tables (rows_at stream sizes) ∙ length-tables

-- the numbers of a row, and of a cell
row_there : (stream : List ℕ) (sizes : Sizes) (table : TableId) (i row : ℕ) (none : List ℕ) → i < count_of sizes table → 1 + i ≡ row → get_or (rows_at stream sizes table) i none ≡ row_at stream sizes table row
row_there stream sizes table i row none below e = get_or-map-range_with_len (row_at stream sizes table) 1 (count_of sizes table) i row none below e

cell_there : (stream : List ℕ) (sizes : Sizes) (table : TableId) (row column none : ℕ) → column < length (columns_of table) → get_or (row_at stream sizes table row) column none ≡ number_at stream sizes table row column
cell_there stream sizes table row column none below = get_or-map-range_with_len (number_at stream sizes table row) 0 (length (columns_of table)) column column none below (omega arith)

-- the number of each cell among those that are read
pub numbers_each : (stream : List ℕ) (sizes : Sizes) (table : TableId) (row column : ℕ) → 1 ≤ row → row ≤ count_of sizes table → column < length (columns_of table)
    → number_in (numbers_at stream sizes) table row column ≡ number_at stream sizes table row column
numbers_each stream sizes table row column first last within =
    let rows : get_or (numbers_at stream sizes) (table_index_of table) [] ≡ rows_at stream sizes table = rows_there stream sizes (table_index_of table) [] (table_index_below table) ∙ ap (rows_at stream sizes) (table_at_index table) in
    ap (λ (rs : List (List ℕ)). get_or (get_or rs (row - 1) []) column 0) rows
    ∙ ap (λ (r : List ℕ). get_or r column 0) (row_there stream sizes table (row - 1) row [] (omega arith) (omega arith))
    ∙ cell_there stream sizes table row column 0 within

-- the numbers of a table stream
pub numbers_laid : (stream : List ℕ) (sizes : Sizes) (numbers : List (List (List ℕ))) → IsLaidOut stream sizes numbers → numbers ≡ numbers_at stream sizes
numbers_laid stream sizes numbers laid =
    let long = fit_long sizes tables numbers laid.fit in
    let counted = counted_rows stream sizes numbers laid in
    let body = body_laid stream sizes numbers laid in
    same_lists numbers (numbers_at stream sizes) (omega (arith, long, length-tables, length-numbers_at stream sizes)) (λ k d below.
    let low : k < 38 = omega (arith, long, length-tables) in
    let table = get_or tables k Module in
    let here = in_tables sizes tables numbers stream sizes.body k Module laid.fit counted body (omega (arith, long)) in
    let rows = same_lists (get_or numbers k []) (rows_at stream sizes table) (here.count ∙ sym (length-map-range_with_len (row_at stream sizes table) 1 (count_of sizes table))) (λ i e few.
    let there = in_rows sizes (columns_of table) (get_or numbers k []) stream _ i here.fit here.begins few in
    let row_is = row_long sizes (columns_of table) (get_or (get_or numbers k []) i []) there.fit in
    let row = same_lists (get_or (get_or numbers k []) i []) (row_at stream sizes table (1 + i)) (row_is ∙ sym (length-map-range_with_len (number_at stream sizes table (1 + i)) 0 (length (columns_of table)))) (λ j f within.
    let column : j < length (columns_of table) = omega (arith, row_is) in
    let cell = cell_laid stream sizes numbers laid table (1 + i) j (omega arith) (omega (arith, here.count)) column in
    let number : number_in numbers table (1 + i) j ≡ get_or (get_or (get_or numbers k []) i []) j 0 =
    ap (λ (p : ℕ). get_or (get_or (get_or numbers p []) (1 + i - 1) []) j 0) (table_index_at k low) ∙ ap (λ (n : ℕ). get_or (get_or (get_or numbers k []) n []) j 0) (one_less i) in
    get_or_default (get_or (get_or numbers k []) i []) j f 0 within ∙ sym (cell.read ∙ number) ∙ sym (cell_there stream sizes table (1 + i) j f column)) in
    get_or_default (get_or numbers k []) i e [] few ∙ row ∙ sym (row_there stream sizes table i (1 + i) e (omega (arith, here.count)) (omega arith))) in
    get_or_default numbers k d [] below ∙ rows ∙ sym (rows_there stream sizes k d low))
  where
    one_less : (n : ℕ) → 1 + n - 1 ≡ n
    one_less n = omega arith

-- an array of the values of each table, by table number, that is written table by table
pub table_kept : (f : TableId → ℕ) (kept : List ℕ) (i number value : ℕ) → i < 38 → length kept ≡ 45 → number ≡ table_number (get_or tables i Module) → value ≡ f (get_or tables i Module)
    → ((k : ℕ) → k < i → get_or kept (table_number (get_or tables k Module)) 0 ≡ f (get_or tables k Module))
    → (k : ℕ) → k < i + 1 → get_or (set kept number value) (table_number (get_or tables k Module)) 0 ≡ f (get_or tables k Module)
table_kept f kept i number value below long is e before =
    below_more _ _
    (λ k less.
    let rise = numbers_rise (get_or tables k Module) (get_or tables i Module) (omega (arith, table_index_at k (omega arith), table_index_at i below)) in
    get_or-set_other kept number (table_number (get_or tables k Module)) value 0 (omega (arith, rise, is)) ∙ before k less)
    (ap (λ (n : ℕ). get_or (set kept number value) n 0) (sym is) ∙ get_or-set_same kept number value 0 (omega (arith, long, is, number_below (get_or tables i Module))) ∙ e)

-- a number that no table has keeps its 0
pub others_kept : (kept : List ℕ) (table : TableId) (number value : ℕ) → number ≡ table_number table → ((n : ℕ) → ((t : TableId) → table_number t ≢ n) → get_or kept n 0 ≡ 0)
    → (n : ℕ) → ((t : TableId) → table_number t ≢ n) → get_or (set kept number value) n 0 ≡ 0
others_kept kept table number value is before n none = get_or-set_other kept number n value 0 (λ e. none table (sym (e ∙ is))) ∙ before n none

pub no_counts : (long n : ℕ) → get_or {A = ℕ} (replicate long 0) n 0 ≡ 0
no_counts zero n = refl
no_counts (suc long) zero = refl
no_counts (suc long) (suc n) = no_counts long n

-- so each table has the value at its number
pub tables_kept : (f : TableId → ℕ) (kept : List ℕ) → ((k : ℕ) → k < 38 → get_or kept (table_number (get_or tables k Module)) 0 ≡ f (get_or tables k Module)) → (table : TableId) → get_or kept (table_number table) 0 ≡ f table
tables_kept f kept each table =
    let here = table_at_index table in
    ap (λ (t : TableId). get_or kept (table_number t) 0) (sym here) ∙ each (table_index_of table) (table_index_below table) ∙ ap f here
