-- The cells of a stream, and that it has no other numbers.
use Rattle.schema.proofs.Prelude.{◌≡◌, ℕ, suc, ◌-◌, ◌<◌, ◌≤◌, List, [], ◌∷◌, ◌++◌, take, length, get_or, refl, sym, subst, ◌∙◌, ap, append_assoc, arith, take-append-drop, length-take-le, same_lists, get_or_default, TableId, Module, Column, U8, table_index_of, tables, columns_of, col, Sizes, count_of, width_of, cell_start, FitRow, IsLaidOut, StandsAt, HoldsCell, table_index_below, table_at_index, length-tables}
use Rattle.schema.proofs.NumberLemmas.{number_read}
use Rattle.schema.proofs.TableLayoutLemmas.{cell_within}
use Rattle.schema.proofs.CellLemmas.{Begins, in_cells, in_tables, in_rows}
use Rattle.schema.proofs.StreamLemmas.{sizes_laid, counted_rows, body_laid, end_laid, fit_long}

-- bytes that begin at an offset within the whole are at this offset
stands_at : (whole bytes : List ℕ) (offset : ℕ) → offset ≤ length whole → Begins whole offset bytes → StandsAt whole offset bytes
stands_at whole bytes offset within begins = record {
  before = take offset whole;
  after = begins.0;
  split = sym (take-append-drop offset whole) ∙ ap (λ (b : List ℕ). take offset whole ++ b) begins.1 ∙ sym (append_assoc (take offset whole) bytes begins.0);
  long = length-take-le offset whole within;
}

-- a cell of a stream
pub cell_laid : (stream : List ℕ) (sizes : Sizes) (numbers : List (List (List ℕ))) → IsLaidOut stream sizes numbers → (table : TableId) (row column : ℕ) → 1 ≤ row → row ≤ count_of sizes table → column < length (columns_of table)
    → HoldsCell stream sizes numbers table row column
cell_laid stream sizes numbers laid table row column first last within =
    let none : Column = col U8 in
    let cell = in_cells sizes tables numbers stream sizes.body (table_index_of table) (row - 1) column table Module none laid.fit (counted_rows stream sizes numbers laid) (body_laid stream sizes numbers laid)
    (omega (arith, table_index_below table, length-tables)) (table_at_index table) (omega arith) within in
    let ends = cell_within sizes table row column none first last within in
    let all = end_laid stream sizes numbers laid in
    record {
      fits = cell.fits;
      stands = stands_at stream _ (cell_start sizes table row column) (omega (arith, ends, all)) cell.begins;
      read = number_read stream cell.begins.0 (cell_start sizes table row column) (width_of sizes (get_or (columns_of table) column none)) _ cell.fits cell.begins.1;
    }

-- a row that fits has one number for each column
pub row_long : (sizes : Sizes) (columns : List Column) (row : List ℕ) → FitRow sizes columns row → length row ≡ length columns
row_long sizes [] [] fit = refl
row_long sizes [] (number ∷ row) fit = absurd fit
row_long sizes (column ∷ columns) [] fit = absurd fit
row_long sizes (column ∷ columns) (number ∷ row) fit = ap suc (row_long sizes columns row fit.1)

-- two lists of numbers in one stream with the same sizes
numbers_same : (stream : List ℕ) (sizes : Sizes) (a b : List (List (List ℕ))) → IsLaidOut stream sizes a → IsLaidOut stream sizes b → a ≡ b
numbers_same stream sizes a b x y =
    let long_a = fit_long sizes tables a x.fit in
    let long_b = fit_long sizes tables b y.fit in
    let none : Column = col U8 in
    let counted_a = counted_rows stream sizes a x in
    let counted_b = counted_rows stream sizes b y in
    let body_a = body_laid stream sizes a x in
    let body_b = body_laid stream sizes b y in
    same_lists a b (omega arith) (λ k d below.
    let low : k < length tables = omega arith in
    let table = get_or tables k Module in
    let at_a = in_tables sizes tables a stream sizes.body k Module x.fit counted_a body_a low in
    let at_b = in_tables sizes tables b stream sizes.body k Module y.fit counted_b body_b low in
    let rows = same_lists (get_or a k []) (get_or b k []) (omega (arith, at_a.count, at_b.count)) (λ i e few.
    let here_a = in_rows sizes (columns_of table) (get_or a k []) stream _ i at_a.fit at_a.begins few in
    let here_b = in_rows sizes (columns_of table) (get_or b k []) stream _ i at_b.fit at_b.begins (omega (arith, at_a.count, at_b.count)) in
    let row_a = row_long sizes (columns_of table) (get_or (get_or a k []) i []) here_a.fit in
    let row_b = row_long sizes (columns_of table) (get_or (get_or b k []) i []) here_b.fit in
    let row = same_lists (get_or (get_or a k []) i []) (get_or (get_or b k []) i []) (omega arith) (λ j f within.
    let cell_a = in_cells sizes tables a stream sizes.body k i j table Module none x.fit counted_a body_a low refl (omega (arith, at_a.count)) (omega arith) in
    let cell_b = in_cells sizes tables b stream sizes.body k i j table Module none y.fit counted_b body_b low refl (omega (arith, at_a.count)) (omega arith) in
    let read_a = number_read stream cell_a.begins.0 _ _ _ cell_a.fits cell_a.begins.1 in
    let read_b = number_read stream cell_b.begins.0 _ _ _ cell_b.fits cell_b.begins.1 in
    get_or_default (get_or (get_or a k []) i []) j f 0 within ∙ sym read_a ∙ read_b ∙ get_or_default (get_or (get_or b k []) i []) j 0 f (omega arith)) in
    get_or_default (get_or a k []) i e [] few ∙ row ∙ get_or_default (get_or b k []) i [] e (omega (arith, at_a.count, at_b.count))) in
    get_or_default a k d [] below ∙ rows ∙ get_or_default b k [] d (omega arith))

-- a stream has one list of numbers
pub numbers_one : (stream : List ℕ) (sizes others : Sizes) (numbers more : List (List (List ℕ))) → IsLaidOut stream sizes numbers → IsLaidOut stream others more → numbers ≡ more
numbers_one stream sizes others numbers more x y =
    let same : others ≡ sizes = sizes_laid stream others more y ∙ sym (sizes_laid stream sizes numbers x) in
    numbers_same stream sizes numbers more x (subst (λ (s : Sizes). IsLaidOut stream s more) same y)
