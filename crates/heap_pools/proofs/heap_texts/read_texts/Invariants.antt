use Rattle.heap_pools.proofs.Prelude.{◌≡◌, ◌<◌, ℕ, length, vec_len, start_use_at, used_at, bytes_of}
use Rattle.heap_pools.specs.HeapTexts.{heap_text}
use Rattle.heap_pools.proofs.heap_texts.read_texts.Given as goal

abbrev pub invariant-loop-start_use : goal.invariant-loop-start_use
invariant-loop-start_use l = record {
  len : vec_len l.texts ≡ length l.starts;
  group : l.group.text.now ≡ heap_text l.heap l.group.start;
  written : (k : ℕ) → k < l.start_use-index → used_at (bytes_of l.texts.items) (start_use_at l.start_uses k).use_index ≡ heap_text l.heap (start_use_at l.start_uses k).start;
}
