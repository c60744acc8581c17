use Rattle.writer.proofs.Prelude.{◌<◌, arith, ◌∙◌, ap, get_or, List, length, length-set, TableId, Module, table_number}
use Rattle.schema.proofs.ReadLemmas.{table_kept, tables_kept}
use Rattle.table_schema.proofs.TableFacts.{length-tables}
use Rattle.writer.proofs.tables_reported.counts.Goals as goal

pub loop-table-preserved : goal.loop-table-preserved
loop-table-preserved g c =
    let root = c.args.source.now in
    let before = c.loop-table.invariant in
    let here = ap (λ (listed : List TableId). get_or listed c.loop-table.table-index Module) c.all-table-items.ensures.value in
    let number = c.number.ensures.value ∙ ap table_number here in
    let below : c.loop-table.table-index < 38 = omega (arith, c.loop-table-test.true, ap length c.all-table-items.ensures.value, length-tables) in
    record {
      room = length-set _ _ _ ∙ before.room;
      each = table_kept (g.S.ReadMetadata.row_count root) c.loop-table.counts c.loop-table.table-index c.number.result c.count.result below before.room number
          (c.count.ensures.rows ∙ ap (g.S.ReadMetadata.row_count root) here) before.each;
    }

pub returns : goal.returns
returns g c =
    tables_kept (g.S.ReadMetadata.row_count c.args.source.now) c.loop-table.counts
    (λ k h. c.loop-table.invariant.each k (omega (arith, h, c.loop-table-test.false, ap length c.all-table-items.ensures.value, length-tables)))
