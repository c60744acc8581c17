-- The rules for an image's CLI header, in order (ECMA-335 II.25.3.3). A rule applies only if all rules before it hold.
-- Each rule has a code, and the offset that is reported if it is broken.
use Rattle.std.specs.Prelude.{ℕ, ◌+◌, ◌≤◌, List, [], ◌∷◌, ◌++◌}
use Rattle.packed.specs.declared.code.FaultCode.TheVariants.{NoCliHeader, CliAddress, CliSize, MetadataAddress}
use Rattle.packed.specs.declared.fault.Fault.{Fault}
use Rattle.packed.specs.Rule.{Rule, rule}
use Rattle.pe.specs.Image.{Image}
use Rattle.pe.specs.Offset.{IsFileOffset}
use Rattle.cli_header.specs.Header.{IsNamed}
use Rattle.cli_header.specs.Said.{header_offset, header_of}

-- the `count` bytes at an address are in the file
abbrev pub HasFileOffset : Image → ℕ → ℕ → Type 0
HasFileOffset image rva count = (offset : ℕ) × IsFileOffset image rva count offset

-- the rules for the data directory that names the header
abbrev pub rules_of_directory : Image → List (Rule Fault)
rules_of_directory image =
    rule (IsNamed image) NoCliHeader image.cli_directory_offset
    ∷ rule ((72 ≤ image.cli_directory.1) × HasFileOffset image image.cli_directory.0 72) CliAddress image.cli_directory_offset
    ∷ []

-- the rules for the header's fields
abbrev pub rules_of_fields : Image → List (Rule Fault)
rules_of_fields image =
    rule (72 ≤ (header_of image).cb) CliSize (header_offset image)
    ∷ rule (HasFileOffset image (header_of image).metadata.rva (header_of image).metadata.size) MetadataAddress (header_offset image + 8)
    ∷ []

-- the rules for the whole header: its data directory and its fields
abbrev pub rules_of_cli_header : Image → List (Rule Fault)
rules_of_cli_header image = rules_of_directory image ++ rules_of_fields image
