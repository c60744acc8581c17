use Rattle.file_ranges.proofs.Prelude.{ℕ, ◌<◌, ◌≤◌, Metadata, IsModel, HasName}
use Rattle.file_ranges.proofs.look_ups.find_resource.Given as goal

abbrev pub invariant-loop-row : goal.invariant-loop-row
invariant-loop-row l = (model : Metadata) → IsModel l.view model → (earlier : ℕ) → 1 ≤ earlier → earlier < l.row → ¬ HasName model l.name earlier
