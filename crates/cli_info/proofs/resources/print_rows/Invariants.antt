use Rattle.cli_info.proofs.Prelude.{ℕ, List, map, range_with_len, CliHeader, Metadata, IsModel, IsDirectoryOf, Where, Prints, AreLocations, resource_line}
use Rattle.cli_info.proofs.resources.print_rows.Given as goal

abbrev pub invariant-loop-earlier : goal.invariant-loop-earlier
invariant-loop-earlier g l =
    (file : List ℕ) (header : CliHeader) (model : Metadata) → IsDirectoryOf file header l.directory → IsModel l.view model
    → (locations : ℕ → Where) → AreLocations file header model locations
    → Prints l.initial.out l.out (map (λ row. resource_line model row (locations row)) (range_with_len 1 l.earlier))
