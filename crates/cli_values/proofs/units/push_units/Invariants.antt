use Rattle.std.proofs.Common.{◌≡◌, ◌++◌, length, string_bytes, flat_map}
use Rattle.heap_entries.specs.UserView.{units_in}
use Rattle.cli_values.specs.Constants.{unit_text}
use Rattle.cli_values.proofs.units.push_units.Given as goal

-- the units before those that are left are in the text
abbrev pub invariant-loop-left : goal.invariant-loop-left
invariant-loop-left l = string_bytes l.text ++ flat_map unit_text (units_in l.left) ≡ string_bytes l.initial.text ++ flat_map unit_text (units_in l.bytes)

abbrev pub decreases-loop-left : goal.decreases-loop-left
decreases-loop-left l = length l.left
