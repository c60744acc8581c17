-- The rules that the bytes of a file or of a bare root are checked against, and their model.
use Rattle.std.specs.Prelude.{◌≡◌, ℕ, List}
use Rattle.cli_header.specs.declared.header.CliHeader.{CliHeader}
use Rattle.packed.specs.declared.fault.Fault.{Fault}
use Rattle.packed.specs.Rule.{Rule}
use Rattle.metadata.specs.Metadata.{Metadata}
use Rattle.metadata.specs.Model.{IsModel, IsModelOfFile}
use Rattle.metadata.specs.Rules.{rules_of_file, rules_of_metadata}
use Rattle.metadata.specs.SourceAt.{SourceAt, source_at}
use Rattle.metadata.specs.Streams.{root_in}
use Rattle.opening.specs.BeforeCells.{rules_before_cells, rules_before_cells_of_file, source_of_file}
use Rattle.opening.specs.Views.{HasImage, HasModel}
use Rattle.opening.specs.Within.{IsSpentIn, IsSpentInFile, Left}
use Rattle.cli_files.specs.declared.opened.Input.{Input}
use Rattle.cli_files.specs.declared.opened.Input.TheVariants.{BareRoot, File}

-- the bytes have this model: as a metadata root (II.24.2), or as a file (II.25)
abbrev pub IsModelOf : Input → List ℕ → Metadata → Type 0
IsModelOf BareRoot bytes model = IsModel bytes model
IsModelOf File bytes model = (header : CliHeader) × IsModelOfFile bytes header model

-- the bytes have a model
abbrev pub IsWhole : Input → List ℕ → Type 0
IsWhole BareRoot bytes = HasModel bytes
IsWhole File bytes = ∥ ((header : CliHeader) × HasImage bytes header) ∥₁

-- the bytes have a model, and this is the metadata root in them
abbrev pub IsOpened : Input → List ℕ → List ℕ → Type 0
IsOpened BareRoot bytes root = HasModel bytes × (root ≡ bytes)
IsOpened File bytes root = (header : CliHeader) × HasImage bytes header × (root ≡ root_in bytes header)

-- their texts or their signature blobs spend a budget (II.24.2.3, II.23.2)
abbrev pub IsSpentOf : ℕ → Input → List ℕ → Type 0
IsSpentOf budget BareRoot bytes = IsSpentIn (Left budget) 0 bytes
IsSpentOf budget File bytes = IsSpentInFile (Left budget) bytes

-- the rules for the bytes, in the order in which they are checked
abbrev pub rules_of : Input → List ℕ → List (Rule Fault)
rules_of BareRoot bytes = rules_of_metadata 0 bytes
rules_of File bytes = rules_of_file bytes

-- the rules before those for cells
abbrev pub rules_before : Input → List ℕ → List (Rule Fault)
rules_before BareRoot bytes = rules_before_cells 0 bytes
rules_before File bytes = rules_before_cells_of_file bytes

-- the numbers and heaps that the cells of the bytes are read from
abbrev pub source_in : Input → List ℕ → SourceAt
source_in BareRoot bytes = source_at 0 bytes
source_in File bytes = source_of_file bytes
