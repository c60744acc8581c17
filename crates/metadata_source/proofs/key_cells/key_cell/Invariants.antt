use Rattle.metadata_source.proofs.Prelude.{◌≢◌, ℕ, ◌<◌, Some, column_of}
use Rattle.metadata_source.proofs.key_cells.key_cell.Given as goal

abbrev pub invariant-loop-cell : goal.invariant-loop-cell
invariant-loop-cell l = (earlier : ℕ) → earlier < l.cell → l.key ≢ Some (column_of l.table earlier)
