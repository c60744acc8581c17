-- What `clim where` and `clim strings` print.
use Rattle.std.specs.Prelude.{◌≡◌, ℕ, ◌⊎◌, List, [], ◌∷◌, ◌++◌, codes, flat_map, map, Result, Ok, Err}
use Rattle.packed.specs.declared.fault.Fault.{Fault as TheFault}
use Rattle.cli_where.specs.Words.{FirstBroken, Metadata, IsModelOfFile, IsModelOf, IsWhole, rules_of, Input, BareRoot, File, Part, word, Printed, Prints, Region}
use Rattle.cli_faults.specs.declared.failure.Failure.{Failure}
use Rattle.cli_faults.specs.declared.failure.Failure.TheVariants.{Fault, OutOfMemory}
use Rattle.cli_header.specs.declared.header.CliHeader.{CliHeader}
use Rattle.cli_contents.specs.Lines.{AreOfResources, content_lines}
use Rattle.cli_where.specs.Lines.{entry_lines, structure_line}
use Rattle.cli_where.specs.UserStrings.{AreEntries, Entry}
use Rattle.cli_found.specs.Values.{value_lines}
use Rattle.cli_where.specs.Where.{AreStructuresAt}
use Rattle.cli_where.specs.declared.report.Found.{Found}
use Rattle.cli_where.specs.declared.report.Found.TheVariants.{Something, Nothing}
use Rattle.cli_where.specs.declared.walk.Reach.TheVariants.{Cells, Entries}

-- whether there is a structure
abbrev pub found_of : List Region → Found
found_of [] = Nothing
found_of (first ∷ later) = Something

-- the lines of structures, and `nothing` if there is none
abbrev pub where_lines : List Region → List (List Part)
where_lines [] = (word (codes "nothing") ∷ []) ∷ []
where_lines (first ∷ later) = map structure_line (first ∷ later)

-- This is true of the line of the number that the last of the structures is, and of those of the methods of a file whose bodies
-- contain the byte at an offset (II.25.4), of the fields whose data contains it (II.22.18), and of the resource whose content
-- contains it (II.22.24), if there is a structure. A bare root has no contents.
abbrev pub HasContents : List Region → Input → List ℕ → ℕ → (List (List Part) → Type 0) → Type 0
HasContents [] input bytes offset P = P []
HasContents (of ∷ later) File bytes offset P =
    (header : CliHeader) (model : Metadata) → (file : IsModelOfFile bytes header model)
    → (resources : List (List Part)) × AreOfResources bytes header model offset resources
    × P (value_lines model bytes (of ∷ later) ++ (content_lines file.image model offset ++ resources))
HasContents (of ∷ later) BareRoot bytes offset P = (model : Metadata) → IsModelOf BareRoot bytes model → P (value_lines model bytes (of ∷ later))

-- The bytes have a model, and the lines of the structures that contain the byte at an offset were printed, and those of contents;
-- or memory ran out before; or a rule is broken, and the lines of the structures down to the cells were printed, of layers that
-- break no rule.
abbrev pub IsLocated : {W : Type 0} → Input → List ℕ → ℕ → Printed W → Printed W → Result Found Failure → Type 0
IsLocated input bytes offset old new (Ok found) =
    IsWhole input bytes × (structures : List Region) × AreStructuresAt input Entries bytes offset structures × (found ≡ found_of structures)
    × HasContents structures input bytes offset (λ contents. Prints old new (where_lines structures ++ contents))
IsLocated input bytes offset old new (Err failure) =
    ((failure ≡ OutOfMemory) × (new ≡ old))
    ⊎ ((fault : TheFault) × (failure ≡ Fault fault) × FirstBroken (rules_of input bytes) fault
    × (structures : List Region) × AreStructuresAt input Cells bytes offset structures × Prints old new (map structure_line structures))

-- The bytes have a model, and the lines of its user strings after the first one were printed, which has no bytes; or nothing
-- was printed, since memory ran out or a rule is broken.
abbrev pub AreListed : {W : Type 0} → Input → List ℕ → Printed W → Printed W → Result (Unit {0}) Failure → Type 0
AreListed input bytes old new (Ok done) =
    IsWhole input bytes
    × ((model : Metadata) → IsModelOf input bytes model → (entries : List Entry) × AreEntries model.user 1 entries × Prints old new (flat_map entry_lines entries))
AreListed input bytes old new (Err failure) =
    ((failure ≡ OutOfMemory) × (new ≡ old)) ⊎ ((fault : TheFault) × (failure ≡ Fault fault) × FirstBroken (rules_of input bytes) fault × (new ≡ old))
