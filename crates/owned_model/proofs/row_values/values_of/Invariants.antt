use Rattle.owned_model.proofs.Prelude.{◌≡◌, ℕ, ◌<◌, length, slice_get, Metadata, cell_in, IsModel, IsShown}
use Rattle.owned_model.proofs.row_values.values_of.Given as goal

-- the values so far equal their cells
abbrev pub invariant-loop-cell_index : goal.invariant-loop-cell_index
invariant-loop-cell_index l = record {
  long : length l.values ≡ 9;
  shown : (model : Metadata) → IsModel l.view model → (k : ℕ) → k < l.cell_index → IsShown (slice_get l.values k) l.table k (cell_in model l.table l.row k);
}
