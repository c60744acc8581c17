use Rattle.reading.proofs.Prelude.{sym, ◌∙◌, arith, start_of}
use Rattle.reading.proofs.StartLemmas.{start_here, start_next, one_more}
use Rattle.reading.proofs.kept_starts.start_up_to.Goals as goal

pub returns-then-number-ne0 : goal.returns-then-number-ne0
returns-then-number-ne0 c =
    let value = c.number-number.ensures.value in
    value ∙ sym (start_here c.args.source.now.source c.args.owner c.loop-later.later c.args.column c.args.member (omega (arith, c.requires.last))
    (λ null. c.if-number-ne0.true (value ∙ null))) ∙ c.loop-later.invariant c.loop-later.later (omega arith) (omega arith)

pub loop-later-preserved : goal.loop-later-preserved
loop-later-preserved c =
    let value = c.number-number.ensures.value in
    one_more (λ r. start_of c.args.source.now.source c.args.owner r c.args.column c.args.member) c.args.row c.loop-later.later (omega arith)
    (start_next c.args.source.now.source c.args.owner c.loop-later.later c.args.column c.args.member (omega (arith, c.requires.last)) (sym value ∙ c.if-number-ne0.false))
    c.loop-later.invariant

pub returns : goal.returns
returns c =
    c.requires.next ∙ c.loop-later.invariant c.args.«end» (omega (arith, c.requires.order)) (omega arith)
