use Rattle.schema.proofs.Prelude.{◌≡◌, ◌≤◌, ◌*◌, ◌+◌, take, length, tables, tables_size, sizes_kept, AreFirstTableLayouts}
use Rattle.schema.proofs.layout.Layout.new.Given as goal

abbrev pub invariant-loop-table_index : goal.invariant-loop-table_index
invariant-loop-table_index l = record {
  start : l.start ≡ l.header.body + tables_size (sizes_kept l.header) (take l.table_index tables);
  small : l.start ≤ 256 + l.table_index * 603979740;
  room : length l.table_layouts ≡ 38;
  table_layouts : AreFirstTableLayouts (sizes_kept l.header) l.table_index l.table_layouts;
}
