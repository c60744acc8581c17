-- The cells of a row that are left, by the columns that are left.
use Rattle.std.proofs.Common.{lit≤}
use Rattle.cell_numbering.proofs.Prelude.{◌≡◌, ℕ, ◌+◌, ◌<◌, ◌≤◌, false, cond, List, [], ◌∷◌, length, get_or, drop, refl, sym, ap, ◌∙◌, length-drop, arith, drop_more, drop_all, TableId, Module, ColumnKind, columns_of, column_at, col, Cell, Number, kind_at, SoFar, with_cell, with_next_cell, is_padding, indexes_from, cell_columns, cell_count, column_of}
use Rattle.table_schema.specs.declared.column.ColumnKind.TheVariants as kind
use Rattle.cell_numbering.specs.declared.numbers_so_far.Indexes.{Indexes}
use Rattle.cell_numbering.specs.CellIndexes.{IsCellIndexOf}

-- before the first column
pub first_cell_index : (table : TableId) → IsCellIndexOf table 0 0
unfolding cell_columns
first_cell_index table = refl

module _ (table : TableId) (index cell_index : ℕ) (below : index < length (columns_of table)) (at : IsCellIndexOf table index cell_index) where
  left : drop cell_index (cell_columns table)
      ≡ cond (is_padding (column_at table index).kind) (indexes_from (index + 1) (drop (index + 1) (columns_of table))) (index ∷ indexes_from (index + 1) (drop (index + 1) (columns_of table)))
  left = at ∙ ap (indexes_from index) (drop_more (columns_of table) index (col kind.U8) below)

  pub cell_index_is : is_padding (column_at table index).kind ≡ false → (cell_index < cell_count table) × (column_of table cell_index ≡ index) × IsCellIndexOf table (index + 1) (cell_index + 1)
  cell_index_is is =
      let tail = indexes_from (index + 1) (drop (index + 1) (columns_of table)) in
      let all : drop cell_index (cell_columns table) ≡ index ∷ tail = left ∙ ap (λ b. cond b tail (index ∷ tail)) is in
      let within : cell_index < cell_count table = omega (arith, ap length all, length-drop cell_index (cell_columns table)) in
      let split : get_or (cell_columns table) cell_index 0 ∷ drop (cell_index + 1) (cell_columns table) ≡ index ∷ tail = sym (drop_more (cell_columns table) cell_index 0 within) ∙ all in
      (within, cc split, cc split)

  -- the next cell is that of the column
  pub next_cell : is_padding (column_at table index).kind ≡ false → (indexes : Indexes) (tail : List Cell → SoFar → SoFar) (row : List Cell) (so_far : SoFar)
      → length row ≡ cell_count table
      → with_next_cell (is_padding (column_at table index).kind) (with_cell indexes (column_at table index).kind) tail (drop cell_index row) so_far
      ≡ tail (drop (cell_index + 1) row) (with_cell indexes (kind_at table cell_index) (get_or row cell_index (Number 0)) so_far)
  next_cell is indexes tail row so_far long =
      let here = cell_index_is is in
      let within : cell_index < length row = omega (arith, here.0, long) in
      ap (λ b. with_next_cell b (with_cell indexes (column_at table index).kind) tail (drop cell_index row) so_far) is
      ∙ ap (λ cells. with_next_cell false (with_cell indexes (column_at table index).kind) tail cells so_far) (drop_more row cell_index (Number 0) within)
      ∙ ap (λ i. tail (drop (cell_index + 1) row) (with_cell indexes (column_at table i).kind (get_or row cell_index (Number 0)) so_far)) (sym here.1)

-- a kind other than `Padding` is not padding
pub unpadded : (k : ColumnKind) → (k ≡ kind.Padding → ⊥) → is_padding k ≡ false
unpadded kind.Padding other = absurd (other refl)
unpadded _ other = refl

pub few_cells : (table : TableId) → cell_count table ≤ length (columns_of table)
unfolding cell_columns
few_cells Module = lit≤ tt
few_cells _ = lit≤ tt

-- ---- what is left of a list

pub next_left : {X Y : Type 0} (over : List X → Y) (xs : List X) (i : ℕ) (d : X) (whole : Y) → i < length xs → over (drop i xs) ≡ whole → over (get_or xs i d ∷ drop (i + 1) xs) ≡ whole
next_left over xs i d whole below e = sym (ap over (drop_more xs i d below)) ∙ e

pub none_left : {X Y : Type 0} (over : List X → Y) (xs : List X) (i : ℕ) (whole : Y) → length xs ≤ i → over (drop i xs) ≡ whole → over [] ≡ whole
none_left over xs i whole past e = sym (ap over (drop_all i xs past)) ∙ e
