use Rattle.heap_pools.proofs.Prelude.{length, drop, take, sym, ap, subst, ◌∙◌, arith, eq-eqb, eqb-true}
use Rattle.memchr.specs.Find.{NoneBefore, Nowhere, Passes, is_byte}
use Rattle.heap_pools.proofs.HeapTextLemmas.{before_first, before_none, heap_text_none, heap_text_past, heap_text_some}
use Rattle.heap_pools.proofs.heap_texts.text_in_heap.Goals as goal
use Rattle.heap_pools.proofs.heap_texts.text_in_heap.Goals.{then-index-eq0-via-then-index-eq0, then-index-eq0-via-else-index-eq0+then-index-heap}

pub returns-then-index-eq0 : goal.returns-then-index-eq0
returns-then-index-eq0 c = elim c.then-index-eq0.branch [
  | then-index-eq0-via-then-index-eq0 w ↦ sym (heap_text_none c.args.heap.now c.args.index (omega arith))
  | then-index-eq0-via-else-index-eq0+then-index-heap w ↦ sym (heap_text_past c.args.heap.now c.args.index (omega arith))
]

pub returns-in_default : goal.returns-in_default
returns-in_default c =
    let heap = c.args.heap.now in
    let index = c.args.index in
    let back = c.split_at.ensures.back in
    let none = subst (λ l. Nowhere (Passes (is_byte 0) l) 0 (length l)) back c.in_default.ensures in
    back ∙ sym (heap_text_some heap index (omega arith) ∙ before_none (drop index heap) (λ k h z. none k (omega arith) h (eq-eqb _ 0 z)))

pub returns : goal.returns
returns c =
    let heap = c.args.heap.now in
    let index = c.args.index in
    let len = c.in-Some.len in
    let back = c.split_at.ensures.back in
    let first = subst (λ l. NoneBefore (Passes (is_byte 0) l) 0 (length l) len × Passes (is_byte 0) l len) back c.in-Some.ensures in
    c.split_at-2.ensures.front ∙ ap (take len) back
    ∙ sym (heap_text_some heap index (omega arith) ∙ before_first (drop index heap) len (λ k lt z. first.0.before k (omega arith) lt (eq-eqb _ 0 z)) first.0.high (eqb-true _ 0 first.1))
