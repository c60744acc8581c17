use Rattle.cli_print.proofs.Prelude.{◌≡◌, ◌++◌, [], refl, nil_from_length}
use Rattle.cli_print.proofs.explanations.print_explanations.Goals as goal

pub returns-in-None : goal.returns-in-None
returns-in-None g c =
    let none : c.args.rules.now ≡ [] = nil_from_length c.args.rules.now c.in-None.ensures.cases in
    rw none (rw c.all_codes.ensures.value at c.print_rules.ensures)

pub returns-in-Some : goal.returns-in-Some
returns-in-Some g c =
    let first = c.print_explanation.ensures in
    let later = c.print_more.ensures in
    rw c.in-Some.ensures.cases.0 (first.0 ++ later.0, (first.0, later.0, first.1, later.1, refl), c.lines_follow.ensures.more _ _ _ _ _ first.2 later.2)
