-- The rules for an image, in order (ECMA-335 II.25.2 and II.25.3). A rule applies only if all rules before it hold.
-- Each rule has a code, and the offset that is reported if it is broken.
use Rattle.std.specs.Prelude.{◌≡◌, ℕ, ◌+◌, ◌*◌, ◌≤◌, ◌⊎◌, List, [], ◌∷◌, ◌++◌, length, codes}
use Rattle.packed.specs.declared.code.FaultCode.TheVariants.{TooLong, DosHeader, PeSignature, OptionalHeader, Pe32PlusSize, Magic, Directories, Sections}
use Rattle.packed.specs.declared.fault.Fault.{Fault}
use Rattle.packed.specs.Limit.{byte_limit}
use Rattle.packed.specs.Rule.{Rule, rule}
use Rattle.packed.specs.Offsets.{part}
use Rattle.pe.specs.Headers.{lfanew, section_count, optional_header_size, magic, wider, directory_count, sections_offset}
use Rattle.pe.specs.Image.{pe_signature}

-- there is room for the MS-DOS header, and `MZ` comes first (II.25.2.1)
abbrev pub HasDosHeader : List ℕ → Type 0
HasDosHeader file = (64 ≤ length file) × (part file 0 2 ≡ codes "MZ")

-- there is room for the PE signature and the PE file header, and the signature is there (II.25.2.2)
abbrev pub HasPeSignature : List ℕ → Type 0
HasPeSignature file = (lfanew file + 24 ≤ length file) × (part file (lfanew file) 4 ≡ pe_signature)

-- the optional header has room for fifteen data directories, and ends within the file (II.25.2.3)
abbrev pub HasOptionalHeader : List ℕ → Type 0
HasOptionalHeader file = (216 ≤ optional_header_size file) × (lfanew file + 24 + optional_header_size file ≤ length file)

-- the rules for the MS-DOS header (II.25.2.1)
abbrev pub rules_of_dos_header : List ℕ → List (Rule Fault)
rules_of_dos_header file =
    rule (length file ≤ byte_limit) TooLong 0
    ∷ rule (HasDosHeader file) DosHeader 0
    ∷ []

-- the rule for the PE signature (II.25.2.1)
abbrev pub rules_of_signature : List ℕ → List (Rule Fault)
rules_of_signature file = rule (HasPeSignature file) PeSignature 0x3C ∷ []

-- the rules for the optional header (II.25.2.3)
abbrev pub rules_of_optional_header : List ℕ → List (Rule Fault)
rules_of_optional_header file =
    rule (HasOptionalHeader file) OptionalHeader (lfanew file + 20)
    ∷ rule (magic file ≡ 0x20B → 232 ≤ optional_header_size file) Pe32PlusSize (lfanew file + 20)
    ∷ rule ((magic file ≡ 0x10B) ⊎ (magic file ≡ 0x20B)) Magic (lfanew file + 24)
    ∷ rule (15 ≤ directory_count file) Directories (lfanew file + 116 + wider file)
    ∷ []

-- the rule for the section headers (II.25.3)
abbrev pub rules_of_sections : List ℕ → List (Rule Fault)
rules_of_sections file = rule (sections_offset file + 40 * section_count file ≤ length file) Sections (lfanew file + 6) ∷ []

-- the rules for the whole image, header by header
abbrev pub rules_of_image : List ℕ → List (Rule Fault)
rules_of_image file =
    rules_of_dos_header file ++ (rules_of_signature file ++ (rules_of_optional_header file ++ rules_of_sections file))
