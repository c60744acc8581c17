use Rattle.writer.proofs.Prelude.{◌+◌, ◌^◌, ◌≤◌, ap, ◌∙◌, get_or, arith, ∥∥₁_elim, le_prop, Module, is_sorted, bit_if}
use Rattle.writer.proofs.CountLemmas.{more_bits, all_bits}
use Rattle.writer.proofs.tables_reported.sorted.Goals as goal

pub overflow_add-sorted : goal.overflow_add-sorted
overflow_add-sorted g c =
    let below : c.loop-table.sorted + c.bit-sorted.result + 1 ≤ 2 ^ 64 = ∥∥₁_elim c.holds_one.ensures.shown le_prop (λ some.
    let model = some.0 in
    let items = c.all-table-items.result.now in
    let i = c.loop-table.table-index in
    let next = c.bit-sorted.ensures ∙ ap (λ set. bit_if set (get_or items i Module)) (c.is_sorted.ensures model some.1) in
    let whole = more_bits (is_sorted model) items i c.loop-table.sorted c.bit-sorted.result _ c.all-table-items.ensures.value c.loop-table-test.true next
    (c.loop-table.invariant model some.1) in
    omega (arith, whole, c.bits_are_known.ensures.low (is_sorted model))) in
    omega (arith, below)

pub loop-table-preserved : goal.loop-table-preserved
loop-table-preserved g c model is =
    let items = c.all-table-items.result.now in
    let i = c.loop-table.table-index in
    let next = c.bit-sorted.ensures ∙ ap (λ set. bit_if set (get_or items i Module)) (c.is_sorted.ensures model is) in
    more_bits (is_sorted model) items i c.loop-table.sorted c.bit-sorted.result _ c.all-table-items.ensures.value c.loop-table-test.true next (c.loop-table.invariant model is)

pub returns : goal.returns
returns g c model is =
    all_bits (is_sorted model) c.all-table-items.result.now c.loop-table.table-index c.loop-table.sorted _ c.all-table-items.ensures.value c.loop-table-test.false
    (c.loop-table.invariant model is)
