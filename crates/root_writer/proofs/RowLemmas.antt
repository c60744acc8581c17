-- The bytes of a row, column by column.
use Rattle.std.proofs.Common.{◌≡◌, ℕ, ◌+◌, ◌-◌, ◌*◌, ◌<◌, ◌≤◌, List, [], ◌∷◌, ◌++◌, length, get_or, take, drop, add-one, sym, ap, ◌∙◌, append-nil, append_assoc, length-append, length-drop, arith}
use Rattle.root_writer.proofs.Prelude.{drop_all, drop_more, Column, Sizes, width_of, number_bytes, row_bytes, rows_bytes, Written, Puts}
use Rattle.root_writer.specs.Flat.{rows_in}

-- the bytes left to write complete the whole, and there is room for them
pub record IsPutting (start now : Written) (left all : List ℕ) : Type 0 where
  pub whole : now.bytes ++ left ≡ start.bytes ++ all
  pub left_room : length left ≤ now.room
  pub all_room : start.room + length start.bytes ≤ now.room + length now.bytes

pub here_fits : (start now : Written) (here tail left all : List ℕ) → left ≡ here ++ tail → IsPutting start now left all → length here ≤ now.room
here_fits start now here tail left all split putting = omega (arith, ap length split, length-append here tail, putting.left_room)

pub put_next : (start now next : Written) (here tail left all : List ℕ) → left ≡ here ++ tail → Puts now next here → IsPutting start now left all
    → IsPutting start next tail all
put_next start now next here tail left all split puts putting = record {
  whole = ap (λ list. list ++ tail) puts.bytes ∙ append_assoc now.bytes here tail ∙ ap (λ list. now.bytes ++ list) (sym split) ∙ putting.whole;
  left_room = omega (arith, ap length split, length-append here tail, putting.left_room, puts.room);
  all_room = omega (arith, ap length puts.bytes, length-append now.bytes here, puts.room, putting.all_room);
}

pub put_all : (start now : Written) (left all : List ℕ) → left ≡ [] → IsPutting start now left all → Puts start now all
put_all start now left all none putting =
    let whole : now.bytes ≡ start.bytes ++ all = sym (append-nil now.bytes) ∙ ap (λ list. now.bytes ++ list) (sym none) ∙ putting.whole in
    record {
      bytes = whole;
      room = omega (arith, ap length whole, length-append start.bytes all, putting.all_room);
    }

pub row_more : (sizes : Sizes) (columns : List Column) (numbers : List ℕ) (i : ℕ) (d : Column) → i < length columns → i < length numbers
    → row_bytes sizes (drop i columns) (drop i numbers)
    ≡ number_bytes (width_of sizes (get_or columns i d)) (get_or numbers i 0) ++ row_bytes sizes (drop (i + 1) columns) (drop (i + 1) numbers)
row_more sizes columns numbers i d more_columns more_numbers =
    ap (λ list. row_bytes sizes list (drop i numbers)) (drop_more columns i d more_columns)
    ∙ ap (row_bytes sizes (get_or columns i d ∷ drop (i + 1) columns)) (drop_more numbers i 0 more_numbers)

pub row_end : (sizes : Sizes) (columns : List Column) (numbers : List ℕ) (i : ℕ) → length columns ≤ i → row_bytes sizes (drop i columns) (drop i numbers) ≡ []
row_end sizes columns numbers i past = ap (λ list. row_bytes sizes list (drop i numbers)) (drop_all i columns past)

-- the next row of the remaining ones
pub next_row : (sizes : Sizes) (columns : List Column) (width left next : ℕ) (numbers here tail : List ℕ) → left ≡ next + 1
    → here ≡ take width numbers → tail ≡ drop width numbers
    → rows_bytes sizes columns (rows_in width left numbers) ≡ row_bytes sizes columns here ++ rows_bytes sizes columns (rows_in width next tail)
next_row sizes columns width left next numbers here tail more prefix back =
    ap (λ count. rows_bytes sizes columns (rows_in width count numbers)) (more ∙ add-one next)
    ∙ ap (λ list. row_bytes sizes columns list ++ rows_bytes sizes columns (rows_in width next (drop width numbers))) (sym prefix)
    ∙ ap (λ list. row_bytes sizes columns here ++ rows_bytes sizes columns (rows_in width next list)) (sym back)

pub no_row : (sizes : Sizes) (columns : List Column) (width left : ℕ) (numbers : List ℕ) → left ≡ 0 → rows_bytes sizes columns (rows_in width left numbers) ≡ []
no_row sizes columns width left numbers none = ap (λ count. rows_bytes sizes columns (rows_in width count numbers)) none

less : (total width next : ℕ) → total ≡ width * (next + 1) → total - width ≡ width * next
less total width next all = omega arith

-- the number of numbers after a row
pub fewer : (width next : ℕ) (numbers tail : List ℕ) → tail ≡ drop width numbers → length numbers ≡ width * (next + 1) → length tail ≡ width * next
fewer width next numbers tail back all = ap length back ∙ length-drop width numbers ∙ less (length numbers) width next all
