use Rattle.cli_names.proofs.Prelude.{◌<◌, ◌≤◌, ℕ, Metadata, IsModel, HasName}
use Rattle.cli_names.proofs.path.named_after.Given as goal

-- no type in the rows so far has the name
abbrev pub invariant-loop-earlier : goal.invariant-loop-earlier
invariant-loop-earlier l = (model : Metadata) → IsModel l.view model → (row : ℕ) → l.fn.after < row → row ≤ l.earlier → ¬ HasName model l.name row
