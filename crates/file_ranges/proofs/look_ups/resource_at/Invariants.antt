use Rattle.file_ranges.proofs.Prelude.{ℕ, ◌<◌, ◌≤◌, List, CliHeader, Metadata, IsModel, HasByte, IsDirectoryOf}
use Rattle.file_ranges.proofs.look_ups.resource_at.Given as goal

-- no resource in a row before this one has the byte
abbrev pub invariant-loop-row : goal.invariant-loop-row
invariant-loop-row l =
    (file : List ℕ) (header : CliHeader) (model : Metadata) → IsDirectoryOf file header l.directory → IsModel l.view model
    → (earlier : ℕ) → 1 ≤ earlier → earlier < l.row → ¬ HasByte file header model earlier l.offset
