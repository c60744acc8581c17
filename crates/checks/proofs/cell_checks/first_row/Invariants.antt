use Rattle.checks.proofs.Prelude.{ℕ, ◌≤◌, ◌<◌, ◌+◌, rows_in, ColumnStands}
use Rattle.checks.proofs.cell_checks.first_row.Given as goal

abbrev pub invariant-loop-column : goal.invariant-loop-column
invariant-loop-column l = record {
  first : 1 ≤ l.limit;
  last : l.limit ≤ rows_in l.source.source l.table + 1;
  stand : (column : ℕ) → column < l.column → ColumnStands l.source l.table l.limit column;
}
