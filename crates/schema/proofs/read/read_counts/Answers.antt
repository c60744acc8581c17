use Rattle.schema.proofs.Prelude.{◌∙◌, ap, sym, subst, refl, arith, get_or, List, length-set, err_from_is_err_and, AllHold, FirstBroken, before_none, before_more, before_all, before_fails, TableId, Module, tables, has_bit, valid_of, count_in, rules_of_count, rules_of_count_at}
use Rattle.schema.proofs.TableLayoutLemmas.{number_kept}
use Rattle.schema.proofs.HeaderLemmas.{offset_at, offset_set, offset_clear, counts_are, bit_there}
use Rattle.schema.proofs.read.read_counts.Goals as goal
use Rattle.schema.proofs.read.read_counts.Goals.{then-is_set, else-is_set}

pub loop-table_index-init : goal.loop-table_index-init
loop-table_index-init c = record {
  offset = refl;
  small = omega arith;
  room = refl;
  counts = λ k h. absurd (omega arith);
  holds = before_none (rules_of_count_at c.args.bytes.now) 0 0 (omega arith);
}

pub read_count-requires-clause-offset : goal.read_count-requires-clause-offset
read_count-requires-clause-offset c =
    rw c.all-table-items.ensures.value (offset_at (has_bit (valid_of c.args.bytes.now)) c.loop-table_index.table_index c.loop-table_index.offset (omega arith) c.loop-table_index.invariant.offset)

pub returns-in_err-count-clause-reports : goal.returns-in_err-count-clause-reports
returns-in_err-count-clause-reports c =
    let here = ap (λ (listed : List TableId). get_or listed c.loop-table_index.table_index Module) c.all-table-items.ensures.value in
    let fails = subst (λ (table : TableId). FirstBroken (rules_of_count c.args.bytes.now table) c.in_err-count.field-0.0) here c.in_err-count.ensures.reports in
    let p = err_from_is_err_and c.from_residual.result c.from_residual.ensures.1 in
    rw (p.1, p.2) (before_fails (rules_of_count_at c.args.bytes.now) 0 c.loop-table_index.table_index 38 c.in_err-count.field-0.0 c.loop-table_index.invariant.holds (omega arith) (omega arith) fails)

pub loop-table_index-preserved : goal.loop-table_index-preserved
loop-table_index-preserved c =
    let bytes = c.args.bytes.now in
    let p = c.loop-table_index.table_index in
    let before = c.loop-table_index.invariant in
    let here = ap (λ (listed : List TableId). get_or listed p Module) c.all-table-items.ensures.value in
    let count = c.in_ok-count.ensures.count ∙ ap (count_in bytes) here in
    let holds = subst (λ (table : TableId). AllHold (rules_of_count bytes table)) here c.in_ok-count.ensures.reports in
    let counts = number_kept (λ k. count_in bytes (get_or tables k Module)) c.loop-table_index.counts p c.in_ok-count.count (omega arith) count before.counts in
    let all = before_more (rules_of_count_at bytes) 0 p before.holds holds in
    elim c.if-is_set.branch [
      | then-is_set w ↦ record {
        offset = w.offset-is ∙ offset_set (has_bit (valid_of bytes)) p c.loop-table_index.offset (omega arith) before.offset
            (ap (has_bit (valid_of bytes)) (sym here) ∙ bit_there bytes c.args.valid _ _ _ c.requires.valid c.is_set.ensures w.if-is_set.true);
        small = omega arith;
        room = length-set _ _ _ ∙ before.room;
        counts = counts;
        holds = all;
      }
      | else-is_set w ↦ record {
        offset = w.offset-is ∙ offset_clear (has_bit (valid_of bytes)) p c.loop-table_index.offset (omega arith) before.offset
            (ap (has_bit (valid_of bytes)) (sym here) ∙ bit_there bytes c.args.valid _ _ _ c.requires.valid c.is_set.ensures w.if-is_set.false);
        small = omega arith;
        room = length-set _ _ _ ∙ before.room;
        counts = counts;
        holds = all;
      }
    ]

pub returns-clause-reports : goal.returns-clause-reports
returns-clause-reports c = before_all (rules_of_count_at c.args.bytes.now) 0 c.loop-table_index.table_index 38 c.loop-table_index.invariant.holds (omega arith)

pub returns-clause-counts : goal.returns-clause-counts
returns-clause-counts c = counts_are (count_in c.args.bytes.now) c.loop-table_index.counts c.loop-table_index.invariant.room (λ k h. c.loop-table_index.invariant.counts k (omega arith))
