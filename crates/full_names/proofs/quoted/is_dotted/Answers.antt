use Rattle.std.proofs.Common.{◌∙◌, ◌≤◌, length, refl, sym, arith}
use Rattle.full_names.proofs.QuotedLemmas.{dotted_end, dotted_step, dotted_stop}
use Rattle.full_names.proofs.quoted.is_dotted.Goals as goal

pub loop-byte-init : goal.loop-byte-init
loop-byte-init c = refl

pub loop-byte-preserved : goal.loop-byte-preserved
loop-byte-preserved c =
    c.loop-byte.invariant ∙ dotted_step c.loop-byte.position c.in-Some.next c.args.text.now c.loop-byte.byte-index c.loop-byte-test.true (sym c.in-Some.ensures)

pub returns-in-None : goal.returns-in-None
returns-in-None c =
    sym (c.loop-byte.invariant ∙ dotted_stop c.loop-byte.position c.args.text.now c.loop-byte.byte-index c.loop-byte-test.true (sym c.in-None.ensures))

pub returns : goal.returns
returns c =
    let all : length c.args.text.now ≤ c.loop-byte.byte-index = omega (arith, c.loop-byte-test.false) in
    c.is_end.ensures ∙ sym (c.loop-byte.invariant ∙ dotted_end c.loop-byte.position c.args.text.now c.loop-byte.byte-index all)
