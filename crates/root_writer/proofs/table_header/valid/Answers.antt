use Rattle.root_writer.proofs.Prelude.{ap, ◌∙◌, ltb, get_or, arith, Module}
use Rattle.root_writer.specs.TableHeader.{is_counted, bit_if}
use Rattle.root_writer.proofs.CountLemmas.{more_bits, all_bits}
use Rattle.root_writer.proofs.table_header.valid.Goals as goal

pub overflow_add-valid : goal.overflow_add-valid
overflow_add-valid c =
    let items = c.all-table-items.result.now in
    let i = c.loop-table.table-index in
    let next = c.bit-valid.ensures ∙ ap (λ count. bit_if (ltb 0 count) (get_or items i Module)) c.count.ensures.value in
    let whole = more_bits c.args.layout.now items i c.loop-table.valid c.bit-valid.result _ c.all-table-items.ensures.value c.loop-table-test.true next c.loop-table.invariant in
    let low = c.bits_are_known.ensures.low (is_counted c.args.layout.now) in
    omega arith

pub loop-table-preserved : goal.loop-table-preserved
loop-table-preserved c =
    let items = c.all-table-items.result.now in
    let i = c.loop-table.table-index in
    let next = c.bit-valid.ensures ∙ ap (λ count. bit_if (ltb 0 count) (get_or items i Module)) c.count.ensures.value in
    more_bits c.args.layout.now items i c.loop-table.valid c.bit-valid.result _ c.all-table-items.ensures.value c.loop-table-test.true next c.loop-table.invariant

pub returns : goal.returns
returns c = all_bits c.args.layout.now c.all-table-items.result.now c.loop-table.table-index c.loop-table.valid _ c.all-table-items.ensures.value c.loop-table-test.false c.loop-table.invariant
