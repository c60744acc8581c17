use Rattle.cli_info.proofs.Prelude.{ℕ, ◌<◌, ◌≤◌, List, CliHeader, Metadata, IsModel, IsDirectoryOf, IsLocated}
use Rattle.cli_info.proofs.resources.first_outside.Given as goal

-- the resources in the rows before this one are somewhere
abbrev pub invariant-loop-row : goal.invariant-loop-row
invariant-loop-row l =
    (file : List ℕ) (header : CliHeader) (model : Metadata) → IsDirectoryOf file header l.directory → IsModel l.view model
    → (earlier : ℕ) → earlier < l.row → 1 ≤ earlier → IsLocated file header model earlier
