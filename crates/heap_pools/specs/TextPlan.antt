-- The value of a planned strings heap, and its encoding in bytes and spans.
use Rattle.std.specs.Prelude.{◌≡◌, ◌==◌, ℕ, ◌+◌, ◌<◌, ◌≤◌, ◌^◌, Bool, List, [], ◌∷◌, length, take, drop, slice_index, if◌then◌else◌}
use Rattle.std.specs.declared.cmp.Ordering.TheVariants.{Less}
use Rattle.heap_pools.specs.declared.text_plan.Span.{Span}
use Rattle.heap_pools.specs.EndingOrder.{ending_cmp}
use Rattle.heap_pools.specs.TextHeap.{text_heap, text_index, holders, ended}
use Rattle.heap_pools.specs.Ranking.{flagged}
use Rattle.heap_pools.specs.Uses.{span_at}

-- the entries of the heap, the texts that were planned, and the index of each text in the order of use
pub record TextPlan : Type 0 where
  pub entries : List (List ℕ)
  pub texts : List (List ℕ)
  pub indexes : List ℕ

abbrev pub with_prefix : ℕ → List (List ℕ) → List (List ℕ)
with_prefix byte [] = []
with_prefix byte (text ∷ texts) = (byte ∷ text) ∷ texts

-- the texts before each NUL
abbrev pub texts_in : List ℕ → List (List ℕ)
texts_in [] = []
texts_in (byte ∷ bytes) = if byte == 0 then [] ∷ texts_in bytes else with_prefix byte (texts_in bytes)

-- the entries of a heap: the texts after its first byte
abbrev pub entries_in : List ℕ → List (List ℕ)
entries_in heap = texts_in (drop 1 heap)

-- the text in a span of the heap
abbrev pub text_in : List ℕ → Span → List ℕ
text_in heap span = take span.len (drop span.start heap)

-- the heap has its entries, and each span is that of a text at its index, sorted by the endings of the texts
pub record IsTextPool (heap : List ℕ) (spans : List Span) : Type 0 where
  pub whole : heap ≡ text_heap (entries_in heap)
  pub fits : length heap ≤ 2 ^ 30
  pub within : (k : ℕ) → k < length spans → (span_at spans k).start + (span_at spans k).len ≤ length heap
  pub indexes : (k : ℕ) → k < length spans → (span_at spans k).start ≡ text_index (entries_in heap) (text_in heap (span_at spans k))
  pub rises : (i j : ℕ) → i < j → j < length spans → ending_cmp (text_in heap (span_at spans i)) (text_in heap (span_at spans j)) ≡ Less

-- the span is that of a text in the heap of the holders of the used texts
pub record IsSpanOf (used : List (List ℕ)) (text : List ℕ) (span : Span) : Type 0 where
  pub start : span.start ≡ text_index (holders used) text
  pub len : span.len ≡ length text
  pub within : span.start + span.len ≤ length (ended (holders used))
  pub reads : text_in (0 ∷ ended (holders used)) span ≡ text

-- the offset that the entry of a text at each use index would have
abbrev pub AreStarts : List (List ℕ) → List Bool → List ℕ → Type 0
AreStarts used flags starts = (use_index : ℕ) → use_index < length used → slice_index starts use_index ≡ 1 + length (ended (flagged (take use_index used) (take use_index flags)))

-- the span is that of a text at the end of an entry, which begins at a start
pub record IsAtEnd (text entry : List ℕ) (start : ℕ) (span : Span) : Type 0 where
  pub len : span.len ≡ length text
  pub end : span.start + length text ≡ start + length entry
