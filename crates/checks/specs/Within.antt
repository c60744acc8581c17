-- Budgets that are spent, and the results within a budget.
use Rattle.std.specs.Prelude.{ℕ, ◌+◌, ◌≤◌, ◌<◌, ◌⊎◌, List, Result, Ok, Err}
use Rattle.packed.specs.declared.fault.Fault.{Fault as First}
use Rattle.packed.specs.Rule.{Rule, AllHold, HoldBefore, FirstBroken}
use Rattle.table_schema.specs.declared.table.TableId.{TableId}
use Rattle.metadata.specs.Source.{Source, rows_in}
use Rattle.metadata.specs.SourceAt.{SourceAt}
use Rattle.metadata.specs.Rows.{table_at}
use Rattle.metadata.specs.Rules.{rules_of_row, rules_of_table_at, rules_of_cells, rules_of_rows}
use Rattle.checks.specs.Budgets.{IsBelow}
use Rattle.checks.specs.TextBytes.{rows_text_bytes, text_bytes, text_bytes_to}
use Rattle.checks.specs.Walks.{walked_signature_bytes}
use Rattle.checks.specs.declared.budget.Budget.{Budget}
use Rattle.checks.specs.declared.budget.BoundedError.{BoundedError}
use Rattle.checks.specs.declared.budget.BoundedError.TheVariants.{Fault, BudgetSpent}

-- the first rows of a table follow the rules for cells, and their texts count more bytes than the budget
pub record RowsSpend (budget : Budget) (here : SourceAt) (table : TableId) : Type 0 where
  pub rows : ℕ
  pub last : rows ≤ rows_in here.source table
  pub held : HoldBefore (rules_of_row here table) 1 (rows + 1)
  pub below : IsBelow budget (rows_text_bytes here.source table rows)

-- so do all tables before one, and the first rows of that one
pub record TextsSpend (budget : Budget) (here : SourceAt) : Type 0 where
  pub table_index : ℕ
  pub rows : ℕ
  pub listed : table_index < 38
  pub last : rows ≤ rows_in here.source (table_at table_index)
  pub tables : HoldBefore (rules_of_table_at here) 0 table_index
  pub held : HoldBefore (rules_of_row here (table_at table_index)) 1 (rows + 1)
  pub below : IsBelow budget (text_bytes_to here.source table_index rows)

-- each rule for the tables that comes before the rules for signatures holds
pub record HoldBeforeSignatures (here : SourceAt) : Type 0 where
  pub cells : AllHold (rules_of_cells here)
  pub rows : AllHold (rules_of_rows here)

-- the bytes that a budget counts
abbrev pub counted_bytes : Source → ℕ
counted_bytes source = text_bytes source + walked_signature_bytes source

-- The budget is less than all the bytes. Either the texts of rows before the first that breaks a rule for cells spend
-- it, or all rules before those of signatures hold.
abbrev pub IsSpent : Budget → SourceAt → Type 0
IsSpent budget here = IsBelow budget (counted_bytes here.source) × (TextsSpend budget here ⊎ HoldBeforeSignatures here)

-- An error is the fault of the first broken rule, or `BudgetSpent`, of which something holds.
abbrev pub FailsWithin : Type 0 → List (Rule First) → BoundedError → Type 0
FailsWithin spent rules (Fault found) = FirstBroken rules found
FailsWithin spent rules BudgetSpent = spent

-- a result reports rules within a budget: it is `Ok` only if all of them hold
abbrev pub ReportsWithin : {X : Type 0} → Type 0 → List (Rule First) → Result X BoundedError → Type 0
ReportsWithin spent rules (Ok x) = AllHold rules
ReportsWithin spent rules (Err error) = FailsWithin spent rules error
