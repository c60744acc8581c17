use Rattle.cli_lines.proofs.Prelude.{◌∷◌, [], ◌∙◌, ◌+◌, drop, get_or, decimal, at_drop_more, drop_all}
use Rattle.json.specs.Print.{print_from}
use Rattle.cli_lines.proofs.JsonLemmas.{items_text}
use Rattle.cli_lines.proofs.TextLemmas.{three_joined}
use Rattle.cli_lines.proofs.json_units.push_array.Goals as goal

pub loop-unit-preserved : goal.loop-unit-preserved
unfolding print_from
loop-unit-preserved c =
    let units = c.in-Some.later.now in
    let index = c.loop-unit.unit-index in
    let left = items_text (drop (index + 1) units) in
    rw (c.in_ok-push_decimal-in-Some-2.ensures, c.in_ok-push-in-Some-2.ensures.items, three_joined c.loop-unit.line.items (44 ∷ []) (decimal (get_or units index 0)) left)
    (rw (at_drop_more items_text units index 0 c.loop-unit-test.true) at c.loop-unit.invariant)

pub returns-in_ok-push-in-Some-3 : goal.returns-in_ok-push-in-Some-3
unfolding print_from
returns-in_ok-push-in-Some-3 c =
    let units = c.in-Some.later.now in
    let all = rw (drop_all c.loop-unit.unit-index units c.loop-unit-test.false) at c.loop-unit.invariant in
    rw (c.in_ok-push-in-Some-3.ensures.items, all, c.in_ok-push_decimal-in-Some.ensures, c.in_ok-push-in-Some.ensures.items, c.in-Some.ensures.cases.0)
    (three_joined c.args.line.now.items (91 ∷ []) (decimal c.in-Some.first.now) (items_text units))
