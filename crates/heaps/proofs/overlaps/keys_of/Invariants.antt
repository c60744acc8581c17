use Rattle.heaps.proofs.Prelude.{All, IsKey}
use Rattle.heaps.proofs.overlaps.keys_of.Given as goal

abbrev pub invariant-loop-use_index : goal.invariant-loop-use_index
invariant-loop-use_index l = record {
  keys : All (IsKey l.heap l.indexes l.windows.width) l.keys.items;
}
