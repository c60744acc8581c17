use Rattle.tables.proofs.Prelude.{◌≡◌, ◌<◌, length, slice_index, HoldBefore, TableId, table_number, table_index_of, count_in, refusals_of_count}
use Rattle.tables.proofs.counted.Counted.new.Given as goal

abbrev pub invariant-loop-table_index : goal.invariant-loop-table_index
invariant-loop-table_index l = record {
  long : length l.counts ≡ 45;
  few : HoldBefore (refusals_of_count l.tables) 0 l.table_index;
  counted : (table : TableId) → table_index_of table < l.table_index → slice_index l.counts (table_number table) ≡ count_in l.tables table;
}
