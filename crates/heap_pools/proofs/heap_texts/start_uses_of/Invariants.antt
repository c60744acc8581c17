use Rattle.heap_pools.proofs.Prelude.{◌≡◌, ◌<◌, ℕ, vec_len, start_use_at}
use Rattle.heap_pools.proofs.StartUseLemmas.{IsStartUse}
use Rattle.heap_pools.proofs.heap_texts.start_uses_of.Given as goal

abbrev pub invariant-loop-use_index : goal.invariant-loop-use_index
invariant-loop-use_index l = record {
  len : vec_len l.start_uses ≡ l.use_index;
  each : (k : ℕ) → k < l.use_index → IsStartUse l.starts k (start_use_at l.start_uses.items k);
}
