use Rattle.cli_lines.proofs.Prelude.{◌≡◌, ◌++◌, drop}
use Rattle.cli_lines.proofs.JsonLemmas.{items_text}
use Rattle.cli_lines.proofs.json_units.push_array.Given as goal

abbrev pub invariant-loop-unit : goal.invariant-loop-unit
invariant-loop-unit l = l.line.items ++ items_text (drop l.unit-index l.later) ≡ l.initial.line.items ++ items_text l.later
