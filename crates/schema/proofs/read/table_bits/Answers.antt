use Rattle.schema.proofs.Prelude.{◌∙◌, ap, sym, arith, get_or, List, take_all, TableId, Module, tables, bits_of, has_bit, length-tables}
use Rattle.schema.proofs.BitLemmas.{bit_set, bit_clear, bit_low, no_bits}
use Rattle.schema.proofs.read.table_bits.Goals as goal
use Rattle.schema.proofs.read.table_bits.Goals.{then-is_set, else-is_set}

pub overflow_add-bits : goal.overflow_add-bits
overflow_add-bits c =
    let low = bit_low c.loop-table.table-index c.loop-table.bits c.number.result _ c.loop-table.invariant.low c.number.ensures.value in
    omega arith

pub loop-table-init : goal.loop-table-init
loop-table-init c = record { bits = sym (no_bits (has_bit c.args.valid)); low = omega arith }

pub loop-table-preserved : goal.loop-table-preserved
loop-table-preserved c =
    let here = ap (λ (listed : List TableId). get_or listed c.loop-table.table-index Module) c.all-table-items.ensures.value in
    let before = c.loop-table.invariant in
    elim c.if-is_set.branch [
      | then-is_set w ↦ record {
        bits = w.bits-is ∙ bit_set c.args.valid c.loop-table.table-index c.loop-table.bits w.number.result _ (omega arith) here w.number.ensures.value before.bits (sym c.is_set.ensures ∙ w.if-is_set.true);
        low = let low = bit_low c.loop-table.table-index c.loop-table.bits w.number.result _ before.low w.number.ensures.value in omega arith;
      }
      | else-is_set w ↦ record {
        bits = w.bits-is ∙ bit_clear c.args.valid c.loop-table.table-index c.loop-table.bits _ (omega arith) here before.bits (sym c.is_set.ensures ∙ w.if-is_set.false);
        low = omega arith;
      }
    ]

pub returns : goal.returns
returns c = c.loop-table.invariant.bits ∙ ap (bits_of (has_bit c.args.valid)) (take_all c.loop-table.table-index tables (omega (arith, length-tables)))
