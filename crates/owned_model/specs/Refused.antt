-- The reasons why nothing is loaded.
use Rattle.std.specs.Prelude.{ℕ, List}
use Rattle.packed.specs.declared.fault.Fault.{Fault}
use Rattle.packed.specs.Rule.{Rule, FirstBroken}
use Rattle.cli_header.specs.declared.header.CliHeader.{CliHeader}
use Rattle.metadata.specs.Metadata.{Metadata}
use Rattle.metadata.specs.Model.{IsModelOfFile}
use Rattle.owned_model.specs.declared.error.LoadError.{LoadError}
use Rattle.owned_model.specs.declared.error.LoadError.TheVariants as load

-- a fault is the first broken rule, and there is no model; out of memory only if there is a model
abbrev pub IsRefused : List (Rule Fault) → Type 0 → LoadError → Type 0
IsRefused rules fits (load.Fault found) = FirstBroken rules found × (¬ fits)
IsRefused rules fits load.Memory = fits

-- the file has some CLI header and some model
abbrev pub HasHeaderAndModel : List ℕ → Type 0
HasHeaderAndModel file = ∥ ((header : CliHeader) × (model : Metadata) × IsModelOfFile file header model) ∥₁
