-- The value of a pool of texts, and its invariant.
use Rattle.std.specs.Prelude.{map}
use Rattle.heap_pools.specs.declared.text_pool.TextPool.TheInside.{Inside}
use Rattle.heap_pools.specs.TextPlan.{TextPlan, IsTextPool, entries_in, text_in}

-- the entries of the heap, the texts in the spans, and the indexes
abbrev pub plan_of : Inside → TextPlan
plan_of pool = record {
  entries = entries_in pool.heap.items;
  texts = map (text_in pool.heap.items) pool.spans.items;
  indexes = pool.indexes.items;
}

abbrev pub IsPlanned : Inside → Type 0
IsPlanned pool = IsTextPool pool.heap.items pool.spans.items
