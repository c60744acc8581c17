use Rattle.clim_c.proofs.Prelude.{◌≡◌, ◌<◌, ◌+◌, ℕ, length, slice_index_or, SameFrom, Metadata, IsModel, ClimCell, ReportsCell}
use Rattle.clim_c.proofs.cells.write_cells.Given as goal

abbrev pub invariant-loop-k : goal.invariant-loop-k
invariant-loop-k l = record {
  shown : (model : Metadata) → IsModel l.seen model → (j : ℕ) (d : ClimCell) → j < l.k
      → ReportsCell l.seen model l.table (l.first + j) l.column (slice_index_or l.cells j d);
  same : SameFrom l.fn.cells l.cells l.k;
  long : length l.cells ≡ length l.fn.cells;
}
