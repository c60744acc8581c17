use Rattle.cli_lines.proofs.Prelude.{◌∙◌, sym, append_assoc, append-nil, flat_map, escaped_unit}
use Rattle.cli_lines.proofs.texts.push_units.Goals as goal

pub loop-unit-preserved : goal.loop-unit-preserved
loop-unit-preserved c =
    rw (c.in_ok-push_unit.ensures, append_assoc c.loop-unit.line.items (escaped_unit c.in-Some.unit) (flat_map escaped_unit c.next.new.self))
    (rw c.in-Some.ensures.steps at c.loop-unit.invariant)

pub returns : goal.returns
returns c = sym (append-nil c.loop-unit.line.items) ∙ rw c.in-None.ensures.steps.0 at c.loop-unit.invariant
