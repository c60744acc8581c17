use Rattle.root_writer.proofs.Prelude.{◌≡◌, ◌+◌, ◌≤◌, ◌++◌, length, drop, tables, counts_bytes}
use Rattle.root_writer.specs.TableHeader.{is_counted}
use Rattle.root_writer.proofs.writer.Writer.put_counts.Given as goal

-- together with the counts that are left this is the whole
abbrev pub invariant-loop-table : goal.invariant-loop-table
invariant-loop-table l = record {
  bytes : l.self.bytes ++ counts_bytes (is_counted l.layout) l.layout (drop l.table-index tables) ≡ l.fn.self.bytes ++ counts_bytes (is_counted l.layout) l.layout tables;
  room : length (counts_bytes (is_counted l.layout) l.layout (drop l.table-index tables)) ≤ l.self.room;
  whole : l.fn.self.room + length l.fn.self.bytes ≤ l.self.room + length l.self.bytes;
}
