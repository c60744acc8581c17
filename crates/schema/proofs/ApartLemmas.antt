-- At most one cell has a byte.
use Rattle.schema.proofs.Prelude.{◌≡◌, ◌∙◌, ℕ, zero, suc, ◌+◌, ◌-◌, ◌*◌, ◌<◌, ◌≤◌, List, take, length, get_or, ap, sym, subst, arith, mul-le-mul, inl, inr, sum_by, cases_lt, sum_by_more, TableId, Module, Column, table_index_of, tables, columns_of, col, Sizes, count_of, width_of, columns_width, row_width, table_size, table_start, tables_size, HasRow, HasCell}
use Rattle.table_schema.specs.declared.column.ColumnKind.TheVariants as kind
use Rattle.schema.proofs.LocatedCellLemmas.{in_row, one_row}

-- an item ends before a later one begins
sum_before : {X : Type 0} (f : X → ℕ) (xs : List X) (i j : ℕ) (none : X) → i < j → j ≤ length xs
    → sum_by f (take i xs) + f (get_or xs i none) ≤ sum_by f (take j xs)
sum_before f xs i zero none less within = absurd (omega arith)
sum_before f xs i (suc j) none less within =
    let next : j + 1 ≡ suc j = omega arith in
    let more = ap (λ (n : ℕ). sum_by f (take n xs)) (sym next) ∙ sum_by_more f xs j none (omega arith) in
    elim (cases_lt i j) [
      | inl h ↦ omega (arith, more, sum_before f xs i j none h (omega arith))
      | inr h ↦
          let same : i ≡ j = omega arith in
          omega (arith, more, ap (λ (n : ℕ). sum_by f (take n xs)) same, ap (λ (n : ℕ). f (get_or xs n none)) same)
    ]

column_before : (sizes : Sizes) (columns : List Column) (i j : ℕ) (none : Column) → i < j → j ≤ length columns
    → columns_width sizes (take i columns) + width_of sizes (get_or columns i none) ≤ columns_width sizes (take j columns)
unfolding columns_width
column_before sizes columns i j none less within = sum_before (width_of sizes) columns i j none less within

table_before : (sizes : Sizes) (i j : ℕ) → i < j → j ≤ length tables
    → tables_size sizes (take i tables) + table_size sizes (get_or tables i Module) ≤ tables_size sizes (take j tables)
unfolding tables_size
table_before sizes i j less within = sum_before (table_size sizes) tables i j Module less within

-- a row ends within its table
row_within : (start width row count offset : ℕ) → 1 ≤ row → row ≤ count → offset < start + (row - 1) * width + width → offset < start + count * width
row_within start width row count offset first last before =
    let more : row - 1 + 1 ≤ count = omega arith in
    let same : width ≤ width = omega arith in
    let all : (row - 1 + 1) * width ≤ count * width = mul-le-mul more same in
    omega (arith, all)

-- a byte of a row is one of its table
record HasTable (sizes : Sizes) (table : TableId) (offset : ℕ) : Type 0 where
  from : table_start sizes table ≤ offset
  before : offset < table_start sizes table + table_size sizes table

in_table : (sizes : Sizes) (table : TableId) (row offset : ℕ) → HasRow sizes table row offset → HasTable sizes table offset
in_table sizes table row offset h = record {
  from = omega (arith, h.from);
  before = row_within (table_start sizes table) (row_width sizes table) row (count_of sizes table) offset h.first h.last h.before;
}

module _ (count : length tables ≡ 38) (low : (table : TableId) → table_index_of table < 38) (stand : (table : TableId) → get_or tables (table_index_of table) Module ≡ table) where
  earlier_table : (sizes : Sizes) (table other : TableId) (offset : ℕ) → HasTable sizes table offset → HasTable sizes other offset
      → table_index_of table < table_index_of other → ⊥
  earlier_table sizes table other offset a b less =
      let ends = table_before sizes (table_index_of table) (table_index_of other) less (omega (arith, count, low other)) in
      omega (arith, ends, ap (table_size sizes) (stand table), a.before, b.from)

  pub one_table : (sizes : Sizes) (table other : TableId) (row column other_row other_column offset : ℕ)
      → HasCell sizes table row column offset → HasCell sizes other other_row other_column offset → table ≡ other
  one_table sizes table other row column other_row other_column offset a b =
      let here = in_table sizes table row offset (in_row sizes table row column offset a) in
      let there = in_table sizes other other_row offset (in_row sizes other other_row other_column offset b) in
      elim (cases_lt (table_index_of table) (table_index_of other)) [
        | inl h ↦ absurd (earlier_table sizes table other offset here there h)
        | inr h ↦ elim (cases_lt (table_index_of other) (table_index_of table)) [
          | inl g ↦ absurd (earlier_table sizes other table offset there here g)
          | inr g ↦
              let same : table_index_of table ≡ table_index_of other = omega arith in
              sym (stand table) ∙ ap (λ (i : ℕ). get_or tables i Module) same ∙ stand other
        ]
      ]

  pub one_row_of : (sizes : Sizes) (table other : TableId) (row column other_row other_column offset : ℕ)
      → HasCell sizes table row column offset → HasCell sizes other other_row other_column offset → row ≡ other_row
  one_row_of sizes table other row column other_row other_column offset a b =
      let same = one_table sizes table other row column other_row other_column offset a b in
      let there = subst (λ (t : TableId). HasCell sizes t other_row other_column offset) (sym same) b in
      one_row sizes table row other_row offset (in_row sizes table row column offset a) (in_row sizes table other_row other_column offset there)

  earlier_column : (sizes : Sizes) (table : TableId) (row column other offset : ℕ) → HasCell sizes table row column offset → HasCell sizes table row other offset
      → column < other → ⊥
  earlier_column sizes table row column other offset a b less =
      let ends = column_before sizes (columns_of table) column other (col kind.U8) less (omega (arith, b.listed)) in
      omega (arith, ends, a.before, b.from)

  pub one_column : (sizes : Sizes) (table other : TableId) (row column other_row other_column offset : ℕ)
      → HasCell sizes table row column offset → HasCell sizes other other_row other_column offset → column ≡ other_column
  one_column sizes table other row column other_row other_column offset a b =
      let same = one_table sizes table other row column other_row other_column offset a b in
      let rows = one_row_of sizes table other row column other_row other_column offset a b in
      let moved = subst (λ (t : TableId). HasCell sizes t other_row other_column offset) (sym same) b in
      let there = subst (λ (r : ℕ). HasCell sizes table r other_column offset) (sym rows) moved in
      elim (cases_lt column other_column) [
        | inl h ↦ absurd (earlier_column sizes table row column other_column offset a there h)
        | inr h ↦ elim (cases_lt other_column column) [
          | inl g ↦ absurd (earlier_column sizes table row other_column column offset there a g)
          | inr g ↦ omega arith
        ]
      ]
