use Rattle.schema.proofs.Prelude.{◌≡◌, ℕ, ◌+◌, ◌*◌, ◌<◌, ◌≤◌, length, get_or, take, count_by, HoldBefore, Module, tables, header_size, has_bit, valid_of, count_in, rules_of_count_at}
use Rattle.schema.proofs.read.read_counts.Given as goal

abbrev pub invariant-loop-table_index : goal.invariant-loop-table_index
invariant-loop-table_index l = record {
  offset : l.offset ≡ header_size (count_by (has_bit (valid_of l.bytes)) (take l.table_index tables));
  small : l.offset ≤ 24 + 4 * l.table_index;
  room : length l.counts ≡ 38;
  counts : (k : ℕ) → k < l.table_index → get_or l.counts k 0 ≡ count_in l.bytes (get_or tables k Module);
  holds : HoldBefore (rules_of_count_at l.bytes) 0 l.table_index;
}
