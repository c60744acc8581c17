use Rattle.root_writer.proofs.Prelude.{◌≡◌, ◌+◌, ◌^◌, ◌<◌, ◌≤◌, ◌++◌, length, drop, sum_by, size_of, sized_directory}
use Rattle.root_writer.proofs.writer.Writer.put_directory.Given as goal

-- together with the headers of the streams that are left this is the whole
abbrev pub invariant-loop-kind : goal.invariant-loop-kind
invariant-loop-kind l = record {
  bytes : l.self.bytes ++ sized_directory (size_of l.sizes) l.offset (drop l.kind-index l.kinds) ≡ l.fn.self.bytes ++ sized_directory (size_of l.sizes) l.first l.kinds;
  room : length (sized_directory (size_of l.sizes) l.offset (drop l.kind-index l.kinds)) ≤ l.self.room;
  whole : l.fn.self.room + length l.fn.self.bytes ≤ l.self.room + length l.self.bytes;
  low : l.offset + sum_by (size_of l.sizes) (drop l.kind-index l.kinds) < 2 ^ 32;
}
