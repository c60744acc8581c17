use Rattle.row_order.proofs.Prelude.{◌≡◌, ◌↔◌, ℕ, Bool, false, IsTrue, List, Some, slice_index_or, ap, arith, ◌∙◌, length-set, TableId, Module, key_of, IsInOrder}
use Rattle.metadata.proofs.ByNumber.{known_more}
use Rattle.row_order.proofs.key_order.find_order.Goals as goal

pub loop-table_index-preserved : goal.loop-table_index-preserved
loop-table_index-preserved c =
    let long = c.loop-table_index.invariant.long in
    let limit = c.number.ensures.limit in
    record {
      long = length-set _ _ _ ∙ long;
      reported = known_more
          (λ (bit : Bool) (table : TableId). (key : ℕ) → key_of table ≡ Some key → IsTrue bit ↔ IsInOrder c.args.source.now.source table key) false
          c.loop-table_index.in_order c.loop-table_index.table_index c.number.result
          (slice_index_or c.all-tables.result.now c.loop-table_index.table_index Module) c.is_in_order.result
          (ap (λ (ts : List TableId). slice_index_or ts c.loop-table_index.table_index Module) c.all-tables.ensures.value)
          c.number.ensures.value (omega arith) c.is_in_order.ensures c.loop-table_index.invariant.reported;
    }
