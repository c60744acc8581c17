use Rattle.cli_outline.proofs.Prelude.{◌≡◌, ◌<◌, ℕ, length, slice_get, slice_index_or, Module, rows_of, tables}
use Rattle.cli_outline.proofs.OrderLemmas.{AreKnown}
use Rattle.cli_outline.proofs.orders.orders_by_name.Given as goal

-- those of the first tables are known
abbrev pub invariant-loop-table : goal.invariant-loop-table
invariant-loop-table l = record {
  long : length l.orders.items ≡ l.table-index;
  known : (k : ℕ) → k < length l.orders.items → AreKnown l.source.neighbours.view.now l.source.options (rows_of (slice_get l.orders.items k)) (slice_index_or tables k Module);
}
