use Rattle.cli_names.proofs.Prelude.{◌<◌, ℕ, Metadata, IsModel, HasPath}
use Rattle.cli_names.proofs.path.first_at.Given as goal

-- no type in the rows so far has the path
abbrev pub invariant-loop-row : goal.invariant-loop-row
invariant-loop-row l = (model : Metadata) → IsModel l.view model → (row : ℕ) → row < l.row → 0 < row → ¬ HasPath model l.path row
