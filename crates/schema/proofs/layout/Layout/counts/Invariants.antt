use Rattle.schema.proofs.Prelude.{◌≡◌, ◌≢◌, ℕ, ◌<◌, length, get_or, TableId, Module, table_number, tables, count_of}
use Rattle.schema.proofs.layout.Layout.counts.Given as goal

abbrev pub invariant-loop-table : goal.invariant-loop-table
invariant-loop-table l = record {
  room : length l.counts ≡ 45;
  each : (k : ℕ) → k < l.table-index → get_or l.counts (table_number (get_or tables k Module)) 0 ≡ count_of l.self (get_or tables k Module);
  others : (number : ℕ) → ((table : TableId) → table_number table ≢ number) → get_or l.counts number 0 ≡ 0;
}
