use Rattle.checks.proofs.Prelude.{ℕ, ◌≤◌, ◌<◌, ◌+◌, AllHold, rules_of_signatures_in, rows_in, Spends, Takes, ColumnEncodes, sum_below, column_walked}
use Rattle.checks.proofs.signature_checks.first_row.Given as goal

abbrev pub invariant-loop-column : goal.invariant-loop-column
invariant-loop-column l = record {
  first : 1 ≤ l.limit;
  last : l.limit ≤ rows_in l.source.source l.table + 1;
  encode : (column : ℕ) → column < l.column → ColumnEncodes l.source l.table l.limit column;
  broken : l.limit ≤ rows_in l.source.source l.table → ¬ AllHold (rules_of_signatures_in l.source l.table l.limit);
  spends : Spends l.initial.budget l.budget (sum_below (column_walked l.source.source l.table) l.column);
  takes : rows_in l.source.source l.table < l.limit → Takes l.initial.budget l.budget (sum_below (column_walked l.source.source l.table) l.column);
}
