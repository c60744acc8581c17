use Rattle.cli_print.proofs.Prelude.{◌∷◌, [], refl, IsAnother}
use Rattle.cli_print.proofs.ExplanationLemmas.{each_more, each_none}
use Rattle.cli_print.proofs.explanations.print_more.Goals as goal

pub loop-rule-preserved : goal.loop-rule-preserved
loop-rule-preserved g c = λ later printed.
    let it = c.print_explanation.ensures in
    let more = c.lines_follow.ensures.more in
    c.loop-rule.invariant later
    (each_more more IsAnother c.args.rules.now c.loop-rule.rule-index _ _ _ _ ([] ∷ it.0) c.loop-rule-test.true (it.0, it.1, refl) (more _ _ _ _ _ c.line.ensures it.2) printed)

pub returns : goal.returns
returns g c =
    c.loop-rule.invariant c.loop-rule.out
    (each_none IsAnother c.args.rules.now c.loop-rule.rule-index c.loop-rule.out c.loop-rule-test.false (c.lines_follow.ensures.nothing _))
