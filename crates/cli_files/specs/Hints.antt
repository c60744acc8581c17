-- What the user may have meant: by the first bytes of the file and its fault, or by an offset past its end.
use Rattle.std.specs.Prelude.{◌==◌, ◌&&◌, ℕ, Bool, List, ◌++◌, nat_le, decimal, Option, Some, None, codes, length, take, if◌then◌else◌}
use Rattle.std.specs.Str.{bytes_eq}
use Rattle.packed.specs.Codes.{number_of_code}
use Rattle.packed.specs.declared.code.FaultCode.TheVariants.{DosHeader, RootSignature}
use Rattle.cli_files.specs.declared.opened.Input.{Input}
use Rattle.cli_files.specs.declared.opened.Input.TheVariants.{BareRoot, File}
use Rattle.cli_faults.specs.declared.failure.Failure.TheVariants.{Fault}
use Rattle.cli_faults.specs.declared.stop.Stop.{Stop}
use Rattle.cli_faults.specs.declared.stop.Stop.TheVariants.{Failed, NothingAt}
use Rattle.cli_files.specs.declared.hint.Hint.{Hint}
use Rattle.cli_files.specs.declared.hint.Hint.TheVariants.{AddBare, DropBare, Length}

-- the bytes begin with these
abbrev pub begin_with : List ℕ → List ℕ → Bool
begin_with prefix bytes = bytes_eq prefix (take (length prefix) bytes)

-- the first bytes of a file of this kind: of a PE file (II.25.2.1) or of a metadata root (II.24.2.1)
abbrev pub signature_of : Input → List ℕ
signature_of File = codes "MZ"
signature_of BareRoot = codes "BSJB"

-- a PE file was expected, and the bytes begin like a metadata root; or the other way round
abbrev pub hint_for_fault : Input → List ℕ → ℕ → Option Hint
hint_for_fault BareRoot bytes code = if (code == number_of_code RootSignature) && begin_with (signature_of File) bytes then Some DropBare else None
hint_for_fault File bytes code = if (code == number_of_code DosHeader) && begin_with (signature_of BareRoot) bytes then Some AddBare else None

-- only a fault, and an offset at which there is nothing, can have a hint; that for an offset past the end of the file is its length
abbrev pub hint_for : Input → List ℕ → Stop → Option Hint
hint_for input bytes (Failed (Fault found)) = hint_for_fault input bytes found.code
hint_for input bytes (NothingAt offset) = if nat_le (length bytes) offset then Some (Length (length bytes)) else None
hint_for input bytes _ = None

-- the line of a hint, without its line feed
abbrev pub hint_text : Hint → List ℕ
hint_text AddBare = codes "  hint: FILE begins like a metadata root; try it with '--bare'"
hint_text DropBare = codes "  hint: FILE begins like a PE file; try it without '--bare'"
hint_text (Length count) = codes "  hint: FILE has " ++ decimal count ++ codes " bytes"
