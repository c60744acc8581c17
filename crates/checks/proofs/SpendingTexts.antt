-- Budgets that the texts of rows spend, and budgets that they do not.
use Rattle.checks.proofs.Prelude.{◌≡◌, ℕ, ◌+◌, ◌-◌, ◌<◌, ◌≤◌, true, Option, Some, None, inl, inr, refl, sym, ap, subst, cond, length, arith, is_utf8, cases_eq, cases_lt, HoldBefore, each_holds, TableId, ColumnKind, columns_of, column_at, Source, rows_in, number_of, SourceAt, table_at, rules_of_row, rules_of_table, rules_of_table_at, Budget, BrokenRow, Takes, RowsSpend, TextsSpend, IsBroken, bytes_before_in, sum_below, text_length, counted_text, cell_text_bytes, row_text_bytes, rows_text_bytes, table_text_bytes, text_bytes, text_bytes_to}
use Rattle.table_schema.specs.declared.column.ColumnKind.TheVariants as kind
use Rattle.checks.proofs.Spending.{takes_none, below_taken, taken_enough}
use Rattle.checks.proofs.Sums.{sum_fewer, sum_step, sum_nothing}

-- nothing is counted if all of the heap is UTF-8
number_uncounted : (source : Source) → is_utf8 source.texts ≡ true → (kind : ColumnKind) (number : ℕ) → counted_text source kind number ≡ 0
number_uncounted source utf8 kind.Text number = ap (λ b. cond b 0 (text_length source.texts number)) utf8
number_uncounted source utf8 _ number = refl

rows_uncounted : (source : Source) → is_utf8 source.texts ≡ true → (table : TableId) (rows : ℕ) → rows_text_bytes source table rows ≡ 0
unfolding row_text_bytes cell_text_bytes
rows_uncounted source utf8 table rows =
    sum_nothing (row_text_bytes source table) (λ before. sum_nothing (cell_text_bytes source table (before + 1))
    (λ column. number_uncounted source utf8 (column_at table column).kind (number_of source table (before + 1) column)) (length (columns_of table))) rows

pub nothing_taken : (source : Source) → is_utf8 source.texts ≡ true → (table : TableId) (found : Option ℕ) (budget : Budget)
    → Takes budget budget (bytes_before_in source table found)
nothing_taken source utf8 table None budget = rw (rows_uncounted source utf8 table (rows_in source table)) (takes_none budget)
nothing_taken source utf8 table (Some row) budget = rw (rows_uncounted source utf8 table (row - 1)) (takes_none budget)

-- the rows of a table spend what is left after the tables before
pub rows_spent : (here : SourceAt) (table_index : ℕ) (table : TableId) (a b : Budget) → table ≡ table_at table_index → table_index < 38
    → HoldBefore (rules_of_table_at here) 0 table_index → Takes a b (sum_below (table_text_bytes here.source) table_index)
    → RowsSpend b here table → TextsSpend a here
unfolding text_bytes_to
rows_spent here table_index table a b is listed tables taken spent =
    let there : RowsSpend b here (table_at table_index) = subst (λ (t : TableId). RowsSpend b here t) is spent in
    record {
      table_index = table_index;
      rows = there.rows;
      listed = listed;
      last = there.last;
      tables = tables;
      held = there.held;
      below = below_taken a b (sum_below (table_text_bytes here.source) table_index) (rows_text_bytes here.source (table_at table_index) there.rows) taken there.below;
    }

from_tables : (source : Source) (table_index more : ℕ) → sum_below (table_text_bytes source) table_index ≤ text_bytes_to source table_index more
unfolding text_bytes_to
from_tables source table_index more = omega arith

module _ (source : Source) (table_index rows : ℕ) (last : rows ≤ rows_in source (table_at table_index)) where
  -- the bytes up to a row are no more than those of its table and the tables before
  to_table : text_bytes_to source table_index rows ≤ sum_below (table_text_bytes source) table_index + table_text_bytes source table_index
  unfolding text_bytes_to table_text_bytes
  to_table = omega (arith, sum_fewer (row_text_bytes source (table_at table_index)) rows (rows_in source (table_at table_index)) last)

  to_tables : (count : ℕ) → table_index < count → text_bytes_to source table_index rows ≤ sum_below (table_text_bytes source) count
  to_tables count below = omega (arith, to_table, sum_step (table_text_bytes source) table_index count below)

  pub to_all : table_index < 38 → text_bytes_to source table_index rows ≤ text_bytes source
  unfolding text_bytes
  to_all listed = to_tables 38 listed

  to_later : (later more : ℕ) → table_index < later → text_bytes_to source table_index rows ≤ text_bytes_to source later more
  to_later later more below = omega (arith, to_tables later below, from_tables source later more)

to_more : (source : Source) (table_index few more : ℕ) → few ≤ more → text_bytes_to source table_index few ≤ text_bytes_to source table_index more
unfolding text_bytes_to
to_more source table_index few more fewer = omega (arith, sum_fewer (row_text_bytes source (table_at table_index)) few more fewer)

-- a budget of which the bytes of all texts were taken is not spent by texts
pub all_taken : (here : SourceAt) (a b : Budget) → Takes a b (text_bytes here.source) → ¬ TextsSpend a here
all_taken here a b taken spent =
    taken_enough a b (text_bytes here.source) (text_bytes_to here.source spent.table_index spent.rows) (to_all here.source spent.table_index spent.rows spent.last spent.listed) taken spent.below

-- nor is one of which those before the first broken row were taken
module _ (here : SourceAt) (at : BrokenRow) (is : IsBroken here at) where
  row_breaks : (rows : ℕ) → HoldBefore (rules_of_row here (table_at at.table_index)) 1 (rows + 1) → rows < at.row
  row_breaks rows held = elim (cases_lt rows at.row) [
    | inl below ↦ below
    | inr past ↦ absurd (is.row.broken (held.each at.row is.row.first (omega (arith, past))))
  ]

  table_breaks : (table_index : ℕ) → HoldBefore (rules_of_table_at here) 0 table_index → table_index ≤ at.table_index
  unfolding rules_of_table_at rules_of_table
  table_breaks table_index held = elim (cases_lt at.table_index table_index) [
    | inr not_past ↦ not_past
    | inl past ↦ absurd (is.row.broken (each_holds (rules_of_row here (table_at at.table_index)) 1 (rows_in here.source (table_at at.table_index))
        (held.each at.table_index (omega arith) past) at.row is.row.first (omega (arith, is.row.last))))
  ]

  pub before_taken : (a b : Budget) → Takes a b (text_bytes_to here.source at.table_index (at.row - 1)) → ¬ TextsSpend a here
  before_taken a b taken spent =
      let few : text_bytes_to here.source spent.table_index spent.rows ≤ text_bytes_to here.source at.table_index (at.row - 1) =
      elim (cases_eq spent.table_index at.table_index) [
        | inl same ↦
            let held = subst (λ (index : ℕ). HoldBefore (rules_of_row here (table_at index)) 1 (spent.rows + 1)) same spent.held in
            subst (λ (index : ℕ). text_bytes_to here.source index spent.rows ≤ text_bytes_to here.source at.table_index (at.row - 1)) (sym same)
            (to_more here.source at.table_index spent.rows (at.row - 1) (omega (arith, row_breaks spent.rows held)))
        | inr other ↦
            to_later here.source spent.table_index spent.rows spent.last at.table_index (at.row - 1)
            (omega (arith, other, table_breaks spent.table_index spent.tables))
      ] in
      taken_enough a b (text_bytes_to here.source at.table_index (at.row - 1)) (text_bytes_to here.source spent.table_index spent.rows) few taken spent.below
