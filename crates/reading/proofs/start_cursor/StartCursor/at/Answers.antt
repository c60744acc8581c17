use Rattle.reading.proofs.Prelude.{ℕ, ◌+◌, ap, sym, ◌∙◌, arith, start_of}
use Rattle.reading.proofs.StartLemmas.{start_here, start_next, start_past, one_more}
use Rattle.reading.proofs.start_cursor.StartCursor.at.Goals as goal

pub returns-then-number-ne0-clause-start : goal.returns-then-number-ne0-clause-start
returns-then-number-ne0-clause-start c =
    let owners = c.count-later-end.ensures.value in
    let value = c.number-number.ensures.value in
    value ∙ sym (start_here c.args.source.now.source c.args.owner c.loop-later.later c.args.column c.args.member (omega arith)
    (λ null. c.if-number-ne0.true (value ∙ null))) ∙ c.loop-later.invariant c.loop-later.later (omega arith) (omega arith)

pub returns-then-number-ne0-clause-cursor : goal.returns-then-number-ne0-clause-cursor
returns-then-number-ne0-clause-cursor c = record {
  each = λ r low high.
      let owners = c.count-later-end.ensures.value in
      let value = c.number-number.ensures.value in
      value ∙ sym (start_here c.args.source.now.source c.args.owner c.loop-later.later c.args.column c.args.member (omega arith)
      (λ null. c.if-number-ne0.true (value ∙ null))) ∙ c.loop-later.invariant c.loop-later.later (omega arith) (omega arith)
      ∙ sym (c.loop-later.invariant r low high);
}

pub loop-later-preserved : goal.loop-later-preserved
loop-later-preserved c =
    let owners = c.count-later-end.ensures.value in
    let value = c.number-number.ensures.value in
    one_more (λ r. start_of c.args.source.now.source c.args.owner r c.args.column c.args.member) c.args.row c.loop-later.later (omega arith)
    (start_next c.args.source.now.source c.args.owner c.loop-later.later c.args.column c.args.member (omega arith) (sym value ∙ c.if-number-ne0.false))
    c.loop-later.invariant

pub returns-clause-start : goal.returns-clause-start
returns-clause-start c =
    let owners = c.count-later-end.ensures.value in
    ap (λ (n : ℕ). n + 1) c.count-2.ensures.value
    ∙ sym (start_past c.args.source.now.source c.args.owner c.loop-later.later c.args.column c.args.member (omega arith))
    ∙ c.loop-later.invariant c.loop-later.later (omega arith) (omega arith)

pub returns-clause-cursor : goal.returns-clause-cursor
returns-clause-cursor c = record {
  each = λ r low high.
      let owners = c.count-later-end.ensures.value in
      let same = c.count.ensures.value in
      ap (λ (n : ℕ). n + 1) c.count-2.ensures.value
      ∙ sym (start_past c.args.source.now.source c.args.owner c.loop-later.later c.args.column c.args.member (omega arith))
      ∙ c.loop-later.invariant c.loop-later.later (omega arith) (omega arith)
      ∙ sym (c.loop-later.invariant r low (omega arith));
}
