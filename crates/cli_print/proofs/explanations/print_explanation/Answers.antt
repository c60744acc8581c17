use Rattle.cli_print.proofs.Prelude.{[], ◌∷◌, refl, rule_line}
use Rattle.cli_print.proofs.ExplanationLemmas.{words_more}
use Rattle.cli_print.proofs.explanations.print_explanation.Goals as goal

pub returns : goal.returns
returns g c =
    let it = c.explain-it.result.now in
    let more = words_more c.lines_follow.ensures.more in
    let items = more _ _ _ ([] ∷ [], refl, c.line.ensures) (more _ _ _ c.print_item.ensures (more _ _ _ c.print_item-2.ensures (more _ _ _ c.print_item-3.ensures c.print_item-4.ensures))) in
    (rule_line it ∷ items.0, (it, items.0, c.explain-it.ensures, items.1, refl), c.lines_follow.ensures.more _ _ _ _ _ c.print_rule.ensures items.2)
