-- The fault that a C caller receives.
use Rattle.std.specs.Prelude.{List, ℕ}
use Rattle.packed.specs.declared.fault.Fault.{Fault}
use Rattle.cli_header.specs.declared.header.CliHeader.{CliHeader}
use Rattle.opening.specs.Views.{HasImage}
use Rattle.clim_c.specs.declared.fault.ClimFault.{ClimFault}

-- the fault with these fields
abbrev pub fault_of : ClimFault → Fault
fault_of reported = record { layer = reported.layer; code = reported.code; offset = reported.offset }

-- the file has some CLI header and some model (II.22 to II.25)
abbrev pub IsWhole : List ℕ → Type 0
IsWhole file = ∥ ((header : CliHeader) × HasImage file header) ∥₁
