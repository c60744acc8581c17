-- The bytes of some rows of a table.
use Rattle.rows.proofs.Prelude.{◌≡◌, ℕ, ◌+◌, ◌-◌, ◌*◌, ◌<◌, ◌≤◌, List, take, drop, length, get_or, sym, ◌∙◌, ap, arith, length-drop, add-mul, mul-le, length-take-le, sum_by_more_le, little_endian, part, TableId, Module, Column, table_index_of, tables, col, columns_of, Sizes, count_of, width_of, cell_start, columns_width, offset_in_row, row_start, row_width, table_size, table_start, tables_end, tables_size, cell_width, number_at, number_in_rows}
use Rattle.table_schema.specs.declared.column.ColumnKind.TheVariants as kind
use Rattle.rows.proofs.OffsetLemmas.{part_of_part}

columns_within : (sizes : Sizes) (columns : List Column) (i : ℕ) (none : Column) → i < length columns
    → columns_width sizes (take i columns) + width_of sizes (get_or columns i none) ≤ columns_width sizes columns
unfolding columns_width
columns_within sizes columns i none lt = sum_by_more_le (width_of sizes) columns i none lt

tables_within : (sizes : Sizes) (i : ℕ) → i < length tables → tables_size sizes (take i tables) + table_size sizes (get_or tables i Module) ≤ tables_size sizes tables
unfolding tables_size
tables_within sizes i lt = sum_by_more_le (table_size sizes) tables i Module lt

-- the rows from one to another, and those before it
rows_added : (first past width : ℕ) → 1 ≤ first → first ≤ past → (first - 1) * width + (past - first) * width ≡ (past - 1) * width
rows_added first past width low order =
    let all : first - 1 + (past - first) ≡ past - 1 = omega (arith, low, order) in
    sym (add-mul (first - 1) (past - first) width) ∙ ap (λ n. n * width) all

module _ (sizes : Sizes) (table : TableId) (first past : ℕ) (low : 1 ≤ first) (order : first ≤ past) where
  pub rows_between : row_start sizes table past - row_start sizes table first ≡ (past - first) * row_width sizes table
  rows_between = omega (arith, rows_added first past (row_width sizes table) low order)

  pub rows_in_order : row_start sizes table first ≤ row_start sizes table past
  rows_in_order = omega (arith, rows_added first past (row_width sizes table) low order)

  module _ (below : table_index_of table < length tables) (listed : get_or tables (table_index_of table) Module ≡ table) (last : past ≤ count_of sizes table + 1) where
    -- the rows end within the tables
    pub rows_within : row_start sizes table past ≤ tables_end sizes
    rows_within =
        let before : (past - 1) * row_width sizes table ≤ count_of sizes table * row_width sizes table =
        mul-le (past - 1) (row_width sizes table) (count_of sizes table) (row_width sizes table) (omega (arith, last)) (omega arith) in
        let all = rw listed at (tables_within sizes (table_index_of table) below) in
        omega (arith, before, all)

    module _ (whole bytes : List ℕ) (within : tables_end sizes ≤ length whole)
        (is : bytes ≡ part whole (row_start sizes table first) ((past - first) * row_width sizes table)) where
      pub rows_long : length bytes ≡ (past - first) * row_width sizes table
      rows_long =
          let start = row_start sizes table first in
          let count = (past - first) * row_width sizes table in
          let ends = rows_within in
          let added = rows_added first past (row_width sizes table) low order in
          let long = length-drop start whole in
          ap length is ∙ length-take-le count (drop start whole) (omega (arith, ends, added, long, within))

      -- a number is read from the bytes of the rows as from the whole
      pub read_in_rows : (row column : ℕ) → first ≤ row → row < past → column < length (columns_of table)
          → number_at whole sizes table row column ≡ number_in_rows bytes sizes table (row - first) column
      read_in_rows row column from before lt =
          let width = row_width sizes table in
          let offset = offset_in_row sizes table column in
          let here = columns_within sizes (columns_of table) column (col kind.U8) lt in
          let earlier = rows_added first row width low from in
          let next : (row - first) * width + 1 * width ≤ (past - first) * width =
          let fewer : row - first + 1 ≤ past - first = omega (arith, from, before) in
          let less = mul-le (row - first + 1) width (past - first) width fewer (omega arith) in
          let split = add-mul (row - first) 1 width in
          omega (arith, less, split) in
          let inside : (row - first) * width + offset + cell_width sizes table column ≤ (past - first) * width = omega (arith, here, next) in
          let start : row_start sizes table first + ((row - first) * width + offset) ≡ cell_start sizes table row column = omega (arith, earlier) in
          sym (ap little_endian (ap (λ l. part l ((row - first) * width + offset) (cell_width sizes table column)) is
          ∙ part_of_part whole (row_start sizes table first) ((past - first) * width) ((row - first) * width + offset) (cell_width sizes table column) inside
          ∙ ap (λ n. part whole n (cell_width sizes table column)) start))
