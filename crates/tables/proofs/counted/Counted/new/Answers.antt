use Rattle.tables.proofs.Prelude.{ℕ, ◌≤◌, subst, arith, HoldBefore, TableId, table_index_of, Metadata, count_in, refusals_of_count, ◌≡◌, List, slice_index_or, ap, ◌∙◌, length-set, before_more, Module}
use Rattle.table_schema.proofs.TableFacts.{table_at_index, table_index_below}
use Rattle.metadata.proofs.ByNumber.{known_more}
use Rattle.tables.proofs.counted.Counted.new.Goals as goal

-- each table is within the limit of rows
few_rows : (model : Metadata) (end : ℕ) → 38 ≤ end → HoldBefore (refusals_of_count model) 0 end → (table : TableId) → count_in model table ≤ 0xFFFFFF
unfolding refusals_of_count
few_rows model end far hold table =
    let P : TableId → Type 0 = λ t. count_in model t ≤ 0xFFFFFF in
    let within = table_index_below table in
    subst P (table_at_index table) (hold.each (table_index_of table) (omega arith) (omega arith)).0

pub loop-table_index-preserved : goal.loop-table_index-preserved
loop-table_index-preserved c =
    let long = c.loop-table_index.invariant.long in
    let limit = c.number-number.ensures.limit in
    record {
      long = length-set _ _ _ ∙ long;
      few = before_more (refusals_of_count c.args.tables.now) 0 c.loop-table_index.table_index c.loop-table_index.invariant.few c.in_ok-counts.ensures.reports;
      counted = known_more (λ (count : ℕ) (table : TableId). count ≡ count_in c.args.tables.now table) 0
          c.loop-table_index.counts c.loop-table_index.table_index c.number-number.result
          (slice_index_or c.all-all.result.now c.loop-table_index.table_index Module) c.in_ok-counts.field-0
          (ap (λ (ts : List TableId). slice_index_or ts c.loop-table_index.table_index Module) c.all-all.ensures.value)
          c.number-number.ensures.value (omega arith) (rw c.all-all.ensures.value c.in_ok-counts.ensures.count) c.loop-table_index.invariant.counted;
    }

pub invariant_of-result : goal.invariant_of-result
invariant_of-result c =
    let done = c.loop-table_index-test.false in
    record {
      counts = λ table. let within = c.tables_stand.ensures.table_index table in c.loop-table_index.invariant.counted table (omega arith);
      few = few_rows c.args.tables.now c.loop-table_index.table_index (omega arith) c.loop-table_index.invariant.few;
    }
