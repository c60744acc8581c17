use Rattle.cli_print.proofs.Prelude.{refl, IsRule}
use Rattle.cli_print.proofs.ExplanationLemmas.{each_more, each_none}
use Rattle.cli_print.proofs.explanations.print_rules.Goals as goal

pub loop-rule-preserved : goal.loop-rule-preserved
loop-rule-preserved g c = λ later printed.
    let it = c.explain.result.now in
    c.loop-rule.invariant later
    (each_more c.lines_follow.ensures.more IsRule c.args.rules.now c.loop-rule.rule-index _ _ _ _ _ c.loop-rule-test.true (it, c.explain.ensures, refl) c.print_rule.ensures printed)

pub returns : goal.returns
returns g c =
    c.loop-rule.invariant c.loop-rule.out
    (each_none IsRule c.args.rules.now c.loop-rule.rule-index c.loop-rule.out c.loop-rule-test.false (c.lines_follow.ensures.nothing _))
