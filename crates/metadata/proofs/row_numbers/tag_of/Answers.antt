use Rattle.metadata.proofs.Prelude.{length, None, sym, arith, is_table}
use Rattle.std.proofs.lemmas.List.Sums.{position_or_len_is}
use Rattle.metadata.proofs.row_numbers.tag_of.Goals as goal

pub returns-clause-value : goal.returns-clause-value
returns-clause-value c =
    let done = c.loop-tag-test.false in
    rw (← c.tables-listed.ensures)
    (sym (position_or_len_is (is_table c.args.table) c.tables-listed.result.now (length c.tables-listed.result.now) None (omega arith)
    (λ k below. c.loop-tag.invariant k (omega arith)) (λ below. absurd (omega arith))))
