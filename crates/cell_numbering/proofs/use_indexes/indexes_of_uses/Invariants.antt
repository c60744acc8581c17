use Rattle.cell_numbering.proofs.Prelude.{◌≡◌, map, take, slice_index}
use Rattle.cell_numbering.proofs.use_indexes.indexes_of_uses.Given as goal

abbrev pub invariant-loop-value : goal.invariant-loop-value
invariant-loop-value l = l.indexes.items ≡ map (slice_index l.of_values) (take l.value-index l.of_use)
