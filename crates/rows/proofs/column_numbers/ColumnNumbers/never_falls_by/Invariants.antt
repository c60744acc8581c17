use Rattle.rows.proofs.Prelude.{ℕ, ◌≤◌, ◌<◌, ◌+◌, number_in_row}
use Rattle.rows.proofs.column_numbers.ColumnNumbers.never_falls_by.Given as goal

abbrev pub invariant-loop-row : goal.invariant-loop-row
invariant-loop-row g l = (row : ℕ) → 1 ≤ row → row < l.row → number_in_row l.self row ≤ number_in_row l.self (row + 1)
