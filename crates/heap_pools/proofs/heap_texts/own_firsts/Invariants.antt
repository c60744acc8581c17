use Rattle.std.proofs.Common.{◌≡◌, ◌<◌, ℕ, vec_len, slice_index}
use Rattle.heap_pools.proofs.heap_texts.own_firsts.Given as goal

abbrev pub invariant-loop-use_index : goal.invariant-loop-use_index
invariant-loop-use_index l = record {
  len : vec_len l.firsts ≡ l.use_index;
  own : (use_index : ℕ) → use_index < l.use_index → slice_index l.firsts.items use_index ≡ use_index;
}
