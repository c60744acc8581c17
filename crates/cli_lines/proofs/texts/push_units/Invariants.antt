use Rattle.cli_lines.proofs.Prelude.{◌≡◌, ◌++◌, flat_map, escaped_unit}
use Rattle.cli_lines.proofs.texts.push_units.Given as goal

abbrev pub invariant-loop-unit : goal.invariant-loop-unit
invariant-loop-unit l = l.line.items ++ flat_map escaped_unit l.unit-iterator ≡ l.initial.line.items ++ flat_map escaped_unit l.fn.units
