-- What `clim check` prints of a file.
use Rattle.std.specs.Prelude.{ℕ, List, [], ◌∷◌, ◌++◌, codes, Option, None, Some}
use Rattle.packed.specs.declared.fault.Fault.{Fault}
use Rattle.packed.specs.Codes.{name_of}
use Rattle.cli_faults.specs.Texts.{ok_text}
use Rattle.cli_lines.specs.declared.names.Name.TheVariants as name
use Rattle.cli_lines.specs.Lines.{Part, word, field, member, number, plain, text, yes}

-- the name of the file, if it is one of several
abbrev pub file_parts : Option (List ℕ) → List Part
file_parts None = []
file_parts (Some file) = field name.File (text file) ∷ word (codes ": ") ∷ []

-- the first broken rule: its layer, its number, the offset of the fault, and its name
unfoldable pub fault_parts : Fault → List Part
fault_parts found =
    word (codes "fault ") ∷ field name.Layer (number found.layer) ∷ word (codes " ") ∷ field name.Code (number found.code)
    ∷ word (codes " at ") ∷ field name.Offset (number found.offset) ∷ word (codes ": ") ∷ field name.Name (plain (name_of found.code)) ∷ []

-- `ok` if no rule is broken
abbrev pub outcome_parts : Option Fault → List Part
outcome_parts None = word ok_text ∷ member name.Ok yes ∷ []
outcome_parts (Some found) = fault_parts found

-- the line of a file that was checked
abbrev pub verdict_line : Option (List ℕ) → Option Fault → List Part
verdict_line file fault = file_parts file ++ outcome_parts fault
