use Rattle.writer.proofs.Prelude.{◌≡◌, ℕ, ◌<◌, length, get_or, Module, table_number, tables}
use Rattle.writer.proofs.tables_reported.counts.Given as goal

abbrev pub invariant-loop-table : goal.invariant-loop-table
invariant-loop-table g l = record {
  room : length l.counts ≡ 45;
  each : (k : ℕ) → k < l.table-index → get_or l.counts (table_number (get_or tables k Module)) 0 ≡ g.S.ReadMetadata.row_count l.source (get_or tables k Module);
}
