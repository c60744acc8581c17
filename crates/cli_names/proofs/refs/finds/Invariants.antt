use Rattle.cli_names.proofs.Prelude.{◌≤◌, ℕ, TypeRef, HasRow, Metadata, IsModel, IsWantedRef}
use Rattle.cli_names.proofs.refs.finds.Given as goal

-- no TypeRef in the rows so far is wanted
abbrev pub invariant-loop-earlier : goal.invariant-loop-earlier
invariant-loop-earlier l = (model : Metadata) → IsModel l.view model → (row : ℕ) → row ≤ l.earlier → ¬ (HasRow model TypeRef row × IsWantedRef model l.wanted row)
