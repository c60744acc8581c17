use Rattle.row_order.proofs.Prelude.{◌≡◌, ◌<◌, ◌↔◌, ℕ, IsTrue, Some, false, slice_index_or, length, TableId, table_number, table_index_of, key_of, IsInOrder}
use Rattle.row_order.proofs.key_order.find_order.Given as goal

abbrev pub invariant-loop-table_index : goal.invariant-loop-table_index
invariant-loop-table_index l = record {
  long : length l.in_order ≡ 45;
  reported : (table : TableId) → table_index_of table < l.table_index
      → (key : ℕ) → key_of table ≡ Some key → IsTrue (slice_index_or l.in_order (table_number table) false) ↔ IsInOrder l.source.source table key;
}
