use Rattle.schema.proofs.Prelude.{◌*◌, ◌≤◌, ◌<◌, get_or, arith, ◌∙◌, refl, length-set, mul-le-mul, Module, tables, IsTableLayout, sizes_kept}
use Rattle.schema.proofs.CellLemmas.{tables_size-nil}
use Rattle.schema.proofs.TableLayoutLemmas.{item_kept, next_start, start_at}
use Rattle.schema.proofs.layout.Layout.new.Goals as goal

pub loop-table_index-init : goal.loop-table_index-init
loop-table_index-init c = record {
  start = omega (arith, tables_size-nil (sizes_kept c.args.header));
  small = let body = c.requires.body in omega arith;
  room = refl;
  table_layouts = λ table_index none h. absurd (omega arith);
}

pub table_layout-table_layout-requires-clause-start : goal.table_layout-table_layout-requires-clause-start
table_layout-table_layout-requires-clause-start c =
    rw c.all-table-items.ensures.value (start_at (sizes_kept c.args.header) c.loop-table_index.table_index c.loop-table_index.start (omega arith) c.loop-table_index.invariant.start)

pub overflow_add-start : goal.overflow_add-start
overflow_add-start c =
    let sizes = sizes_kept c.args.header in
    let count = rw c.all-table-items.ensures.value at c.count.ensures in
    let low : c.count.result ≤ 0xFFFFFF = rw count (c.requires.counts (get_or tables c.loop-table_index.table_index Module)) in
    let size : c.count.result * c.table_layout-table_layout.result.row_width ≤ 0xFFFFFF * 36 = mul-le-mul low c.table_layout-table_layout.ensures.narrow in
    omega arith

pub loop-table_index-preserved : goal.loop-table_index-preserved
loop-table_index-preserved c =
    let sizes = sizes_kept c.args.header in
    let before = c.loop-table_index.invariant in
    let p = c.loop-table_index.table_index in
    let below : p < 38 = omega arith in
    let table_layout = rw c.all-table-items.ensures.value at c.table_layout-table_layout.ensures in
    let count = rw c.all-table-items.ensures.value at c.count.ensures in
    let low : c.count.result ≤ 0xFFFFFF = rw count (c.requires.counts (get_or tables p Module)) in
    let size : c.count.result * c.table_layout-table_layout.result.row_width ≤ 0xFFFFFF * 36 = mul-le-mul low table_layout.narrow in
    record {
      start = next_start sizes p c.loop-table_index.start c.count.result c.table_layout-table_layout.result.row_width below before.start count table_layout.row_width;
      small = omega arith;
      room = length-set _ _ _ ∙ before.room;
      table_layouts = item_kept (λ k. IsTableLayout sizes (get_or tables k Module)) c.loop-table_index.table_layouts p c.table_layout-table_layout.result (omega arith) table_layout before.table_layouts;
    }
