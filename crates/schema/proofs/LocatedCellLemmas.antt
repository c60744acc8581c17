-- Rows and cells that have a byte.
use Rattle.schema.proofs.Prelude.{◌≡◌, ℕ, ◌+◌, ◌-◌, ◌*◌, ◌<◌, ◌≤◌, arith, mul-le-mul, inl, inr, cases_lt, TableId, columns_of, col, Sizes, row_width, table_start, HasRow, HasCell}
use Rattle.table_schema.specs.declared.column.ColumnKind.TheVariants as kind
use Rattle.schema.proofs.TableLayoutLemmas.{columns_within}

-- a byte of a cell is one of the cell's row
pub in_row : (sizes : Sizes) (table : TableId) (row column offset : ℕ) → HasCell sizes table row column offset → HasRow sizes table row offset
in_row sizes table row column offset h =
    let within = columns_within sizes (columns_of table) column (col kind.U8) h.listed in
    record { first = h.first; last = h.last; from = omega (arith, h.from); before = omega (arith, h.before, within) }

earlier_row : (row other width : ℕ) → 1 ≤ row → row < other → (row - 1) * width + width ≤ (other - 1) * width
earlier_row row other width first less =
    let more : row - 1 + 1 ≤ other - 1 = omega arith in
    let same : width ≤ width = omega arith in
    let all : (row - 1 + 1) * width ≤ (other - 1) * width = mul-le-mul more same in
    omega (arith, all)

same_row : (start width row other offset : ℕ) → 1 ≤ row → 1 ≤ other → start + (row - 1) * width ≤ offset → offset < start + (row - 1) * width + width
    → start + (other - 1) * width ≤ offset → offset < start + (other - 1) * width + width → row ≡ other
same_row start width row other offset first other_first from before other_from other_before =
    elim (cases_lt row other) [
      | inl h ↦ absurd (omega (arith, earlier_row row other width first h))
      | inr h ↦ elim (cases_lt other row) [
        | inl g ↦ absurd (omega (arith, earlier_row other row width other_first g))
        | inr g ↦ omega arith
      ]
    ]

-- only one row of a table has a byte
pub one_row : (sizes : Sizes) (table : TableId) (row other offset : ℕ) → HasRow sizes table row offset → HasRow sizes table other offset → row ≡ other
one_row sizes table row other offset a b = same_row (table_start sizes table) (row_width sizes table) row other offset a.first b.first a.from a.before b.from b.before
