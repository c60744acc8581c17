use Rattle.schema.proofs.Prelude.{refl, arith, ◌∙◌, ap, get_or, List, length-set, TableId, Module, table_number, count_of}
use Rattle.schema.proofs.ReadLemmas.{table_kept, others_kept, no_counts, tables_kept}
use Rattle.schema.proofs.layout.Layout.counts.Goals as goal

pub loop-table-init : goal.loop-table-init
loop-table-init c = record { room = refl; each = λ k h. absurd (omega arith); others = λ number none. no_counts 45 number }

pub loop-table-preserved : goal.loop-table-preserved
loop-table-preserved c =
    let sizes = c.args.self.now in
    let before = c.loop-table.invariant in
    let here = ap (λ (listed : List TableId). get_or listed c.loop-table.table-index Module) c.all-table-items.ensures.value in
    let number = c.number.ensures.value ∙ ap table_number here in
    record {
      room = length-set _ _ _ ∙ before.room;
      each = table_kept (count_of sizes) c.loop-table.counts c.loop-table.table-index c.number.result c.count.result (omega arith) before.room number (c.count.ensures.value ∙ ap (count_of sizes) here) before.each;
      others = others_kept c.loop-table.counts _ c.number.result c.count.result c.number.ensures.value before.others;
    }

pub returns : goal.returns
returns c = record { each = tables_kept (count_of c.args.self.now) c.loop-table.counts (λ k h. c.loop-table.invariant.each k (omega arith)); others = c.loop-table.invariant.others }
