use Rattle.rows.proofs.Prelude.{ℕ, ◌≤◌, ◌<◌, true, number_in_row}
use Rattle.rows.proofs.column_numbers.ColumnNumbers.first_failing_by.Given as goal

abbrev pub invariant-loop-row : goal.invariant-loop-row
invariant-loop-row g l = record {
  before : (row : ℕ) → 1 ≤ row → row < l.row → goal.F-post g l.passes (number_in_row l.self row) true;
}
