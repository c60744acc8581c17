use Rattle.std.proofs.Common.{◌≡◌, ◌++◌, drop}
use Rattle.std.specs.Prelude.{map}
use Rattle.tables.specs.Said.{all_said}
use Rattle.type_records.specs.Values.{reported}
use Rattle.type_records.proofs.field_value.owned_cells.Given as goal

-- the cells so far, with the fields that remain, are the whole row
abbrev pub invariant-loop-value : goal.invariant-loop-value
invariant-loop-value l =
    all_said l.cells.items ++ map reported (drop l.value-index l.values) ≡ map reported l.values
