use Rattle.cli_print.proofs.Prelude.{◌≡◌, ◌∙◌, ap, rule_line}
use Rattle.packed.specs.Codes.{name_of, number_of_code}
use Rattle.cli_print.proofs.explanations.print_rule.Goals as goal

pub returns : goal.returns
unfolding rule_line
returns g c =
    let known = c.parts_follow.ensures.more _ _ _ _ _ c.add_known.ensures c.add_known-2.ensures in
    let name_is : c.name-name.result.now ≡ name_of (number_of_code c.args.it.now.code) = c.name-name.ensures ∙ ap (λ of. name_of of.code) c.new.ensures in
    rw (← name_is, ← c.number-number.ensures, ← c.space_before.ensures) (c.parts_follow.ensures.line _ _ _ _ _ _ c.begin.ensures known c.end.ensures)
