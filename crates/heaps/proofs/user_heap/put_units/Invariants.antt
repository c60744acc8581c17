use Rattle.heaps.proofs.Prelude.{◌≡◌, ◌++◌, take, flat_map, unit_bytes}
use Rattle.heaps.proofs.user_heap.put_units.Given as goal

abbrev pub invariant-loop-unit : goal.invariant-loop-unit
invariant-loop-unit l = l.bytes.items ≡ l.initial.bytes.items ++ flat_map unit_bytes (take l.unit-index l.units)
