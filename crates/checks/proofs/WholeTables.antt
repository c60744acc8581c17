-- Errors of parts of the rules for tables.
use Rattle.checks.proofs.Prelude.{◌++◌, inl, arith, AllHold, FirstBroken, fails_prefix, fails_back, SourceAt, rules_of_cells, rules_of_rows, rules_of_signatures, rules_of_tables, Budget, BoundedError, text_bytes_to, FailsWithin, IsSpent, TextsSpend, counted_bytes}
use Rattle.packed.specs.declared.fault.Fault.{Fault as First}
use Rattle.checks.specs.declared.budget.BoundedError.TheVariants.{Fault, BudgetSpent}
use Rattle.checks.proofs.Spending.{below_within}
use Rattle.checks.proofs.SpendingTexts.{to_all}

-- an error of the cells is one of the tables
pub cells_fail : (here : SourceAt) (budget : Budget) (error : BoundedError) → FailsWithin (TextsSpend budget here) (rules_of_cells here) error
    → FailsWithin (IsSpent budget here) (rules_of_tables here) error
unfolding rules_of_tables
cells_fail here budget (Fault found) fails =
    fails_prefix (rules_of_cells here) (rules_of_rows here ++ rules_of_signatures here) found fails
cells_fail here budget BudgetSpent spent = (
  below_within budget (text_bytes_to here.source spent.table_index spent.rows) (counted_bytes here.source)
      (omega (arith, to_all here.source spent.table_index spent.rows spent.last spent.listed)) spent.below,
  inl spent,
)

-- so is a fault of the rows
pub rows_fail : (here : SourceAt) (found : First) → AllHold (rules_of_cells here) → FirstBroken (rules_of_rows here) found
    → FirstBroken (rules_of_tables here) found
unfolding rules_of_tables
rows_fail here found cells fails =
    fails_back (rules_of_cells here) (rules_of_rows here ++ rules_of_signatures here) found cells (fails_prefix (rules_of_rows here) (rules_of_signatures here) found fails)
