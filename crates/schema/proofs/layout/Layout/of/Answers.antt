use Rattle.schema.proofs.Prelude.{◌≡◌, ℕ, ◌∙◌, ap, refl, arith, get_or, ltb, lt-ltb, le-ltb, List, length-set, count_by, take_all, TableId, Module, table_number, tables, Sizes, header_size, sizes_by_number, count_of, length-tables}
use Rattle.schema.proofs.TableLayoutLemmas.{number_kept}
use Rattle.schema.proofs.HeaderLemmas.{offset_set, offset_clear, counts_are, count_is, same_sizes}
use Rattle.schema.proofs.layout.Layout.of.Goals as goal
use Rattle.schema.proofs.layout.Layout.of.Goals.{then-count-gt0, else-count-gt0}

pub loop-table_index-init : goal.loop-table_index-init
loop-table_index-init c = record { body = refl; small = omega arith; room = refl; listed = λ k h. absurd (omega arith) }

pub loop-table_index-preserved : goal.loop-table_index-preserved
loop-table_index-preserved c =
    let counts = c.args.counts.now in
    let p = c.loop-table_index.table_index in
    let before = c.loop-table_index.invariant in
    let number = c.number.ensures.value ∙ ap (λ (listed : List TableId). table_number (get_or listed p Module)) c.all-table-items.ensures.value in
    let count = ap (λ (n : ℕ). get_or counts n 0) number in
    let listed = number_kept (λ k. get_or counts (table_number (get_or tables k Module)) 0) c.loop-table_index.listed p (get_or counts c.number.result 0) (omega arith) count before.listed in
    elim c.if-count-gt0.branch [
      | then-count-gt0 w ↦ record {
        body = w.body-is ∙ offset_set (λ table. ltb 0 (get_or counts (table_number table) 0)) p c.loop-table_index.body (omega arith) before.body (lt-ltb _ _ (omega (arith, count, w.if-count-gt0.true)));
        small = omega arith;
        room = length-set _ _ _ ∙ before.room;
        listed = listed;
      }
      | else-count-gt0 w ↦ record {
        body = w.body-is ∙ offset_clear (λ table. ltb 0 (get_or counts (table_number table) 0)) p c.loop-table_index.body (omega arith) before.body (le-ltb _ _ (omega (arith, count, w.if-count-gt0.false)));
        small = omega arith;
        room = length-set _ _ _ ∙ before.room;
        listed = listed;
      }
    ]

pub new-requires : goal.new-requires
new-requires c =
    let counts = c.args.counts.now in
    let listed = counts_are (λ table. get_or counts (table_number table) 0) c.loop-table_index.listed c.loop-table_index.invariant.room (λ k h. c.loop-table_index.invariant.listed k (omega arith)) in
    record {
      counts = λ table. rw (count_is (λ t. get_or counts (table_number t) 0) c.loop-table_index.listed listed table) (c.requires.counts table);
      body = let small = c.loop-table_index.invariant.small in omega arith;
    }

pub returns : goal.returns
returns c =
    let counts = c.args.counts.now in
    let listed = counts_are (λ table. get_or counts (table_number table) 0) c.loop-table_index.listed c.loop-table_index.invariant.room (λ k h. c.loop-table_index.invariant.listed k (omega arith)) in
    let body = c.loop-table_index.invariant.body ∙ ap (λ (ts : List TableId). header_size (count_by (λ table. ltb 0 (get_or counts (table_number table) 0)) ts)) (take_all c.loop-table_index.table_index tables (omega (arith, length-tables))) in
    let value : c.new.result ≡ sizes_by_number counts c.args.heap_sizes = c.new.ensures ∙ same_sizes _ _ listed refl refl body in
    record {
      value = value;
      each = λ table. ap (λ (sizes : Sizes). count_of sizes table) value ∙ count_is (λ t. get_or counts (table_number t) 0) _ refl table;
    }
