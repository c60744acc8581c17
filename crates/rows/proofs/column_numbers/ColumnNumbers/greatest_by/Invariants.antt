use Rattle.rows.proofs.Prelude.{ℕ, ◌≤◌, ◌<◌, number_in_row, IsAmong}
use Rattle.rows.proofs.column_numbers.ColumnNumbers.greatest_by.Given as goal

abbrev pub invariant-loop-row : goal.invariant-loop-row
invariant-loop-row g l = record {
  bound : (row : ℕ) → 1 ≤ row → row < l.row → number_in_row l.self row ≤ l.greatest;
  among : 0 < l.greatest → IsAmong l.self l.row l.greatest;
}
