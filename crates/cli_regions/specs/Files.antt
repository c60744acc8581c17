-- The PE headers, the sections and the CLI header of a file as structures, outermost first (ECMA-335 II.25; PE32+ by Microsoft's PE
-- format).
use Rattle.std.specs.Prelude.{ℕ, ◌+◌, ◌-◌, ◌*◌, ◌/◌, ◌==◌, nat_le, if◌then◌else◌, List, [], ◌∷◌, ◌++◌, codes, decimal, length, map, take, min, Option, None, Some}
use Rattle.std.specs.List.{flat_map, range_with_len}
use Rattle.packed.specs.Offsets.{part}
use Rattle.root.specs.Fields.{before_nul}
use Rattle.pe.specs.Headers.{directory_count, lfanew, magic, optional_header_size, section_at, section_count, sections_offset, wider}
use Rattle.pe.specs.Image.{Image}
use Rattle.pe.specs.Offset.{offset_at}
use Rattle.cli_header.specs.declared.header.CliHeader.{CliHeader}
use Rattle.cli_header.specs.declared.header.DataDirectory.{DataDirectory}
use Rattle.cli_faults.specs.Escaped.{escaped_text}
use Rattle.cli_regions.specs.Regions.{Field, Region, field_region, fields_from, header_regions, region}
use Rattle.cli_regions.specs.declared.fields.TheConstants.{CLI_HEADER, DIRECTORIES, DIRECTORY_FIELDS, FILE_HEADER, PE32, PE32_PLUS, SECTION_HEADER}

-- the MS-DOS header, of which the standard names `MZ` and lfanew (II.25.2.1)
unfoldable pub dos_header_regions : List Region
dos_header_regions =
    region 0 64 (codes "ms-dos header") ∷ region 0 2 (codes "ms-dos header Signature") ∷ field_region 0x3C 4 (codes "ms-dos header lfanew") ∷ []

-- the PE signature at this offset (II.25.2.1), and the PE file header after it with its fields (II.25.2.2)
unfoldable pub file_header_regions : ℕ → List Region
file_header_regions start =
    region start 4 (codes "pe signature")
    ∷ header_regions (codes "pe file header") [] (start + 4) 20 (map (λ of. (of.0.now, of.1)) FILE_HEADER)

-- the fields of the optional header before the data directories, by Magic
abbrev pub optional_fields : ℕ → List Field
optional_fields magic = if magic == 0x20B then (map (λ of. (of.0.now, of.1)) PE32_PLUS) else (map (λ of. (of.0.now, of.1)) PE32)

-- the optional header, and its fields before the data directories (II.25.2.3)
unfoldable pub optional_header_regions : List ℕ → List Region
optional_header_regions file =
    header_regions (codes "optional header") [] (lfanew file + 24) (optional_header_size file) (optional_fields (magic file))

-- the offset of the first data directory (II.25.2.3.3)
abbrev pub directories_offset : List ℕ → ℕ
directories_offset file = lfanew file + 120 + wider file

-- the number of data directories that are counted and end within the optional header (II.25.2.3.3)
abbrev pub whole_directories : List ℕ → ℕ
whole_directories file = min (directory_count file) ((sections_offset file - directories_offset file) / 8)

-- these data directories, and then their fields
unfoldable pub directories_regions : List ℕ → List Region
directories_regions file =
    fields_from (codes "data directory") (directories_offset file) (take (whole_directories file) (map (λ of. (of.0.now, of.1)) DIRECTORIES))
    ++ fields_from (codes "data directory") (directories_offset file) (take (2 * whole_directories file) (map (λ of. (of.0.now, of.1)) DIRECTORY_FIELDS))

-- the offset of a section header by its index from 0 (II.25.3)
abbrev pub section_offset : List ℕ → ℕ → ℕ
section_offset file index = sections_offset file + 40 * index

-- a name after a space, and nothing for an empty one
abbrev pub spaced : List ℕ → List ℕ
spaced [] = []
spaced (byte ∷ bytes) = codes " " ++ escaped_text (byte ∷ bytes)

-- a number and a name, each after a space
abbrev pub numbered : ℕ → List ℕ → List ℕ
numbered number name = codes " " ++ (decimal number ++ spaced name)

-- the number of a section from 1, and its name up to the first NUL (II.25.3)
abbrev pub section_words : List ℕ → ℕ → List ℕ
section_words file index = numbered (index + 1) (before_nul (part file (section_offset file index) 8))

-- a section header, and its fields (II.25.3)
unfoldable pub section_header_regions : List ℕ → ℕ → List Region
section_header_regions file index =
    header_regions (codes "section header") (section_words file index) (section_offset file index) 40 (map (λ of. (of.0.now, of.1)) SECTION_HEADER)

-- the bytes of a section: SizeOfRawData bytes at PointerToRawData, or fewer if the file ends earlier (II.25.3)
abbrev pub section_bytes : List ℕ → ℕ → List ℕ
section_bytes file index =
    part file (section_at file (section_offset file index)).pointer_to_raw_data (section_at file (section_offset file index)).size_of_raw_data

-- a section
unfoldable pub section_regions : List ℕ → ℕ → List Region
section_regions file index =
    region (section_at file (section_offset file index)).pointer_to_raw_data (length (section_bytes file index)) (codes "section" ++ section_words file index)
    ∷ []

-- all headers of the image, and then its sections
unfoldable pub image_regions : List ℕ → List Region
image_regions file =
    dos_header_regions
    ++ file_header_regions (lfanew file)
    ++ optional_header_regions file
    ++ directories_regions file
    ++ flat_map (section_header_regions file) (range_with_len 0 (section_count file))
    ++ flat_map (section_regions file) (range_with_len 0 (section_count file))

-- bytes at this offset, if they end within the image
abbrev pub named_at : Image → List ℕ → DataDirectory → Option ℕ → List Region
named_at image what directory None = []
named_at image what directory (Some offset) =
    if nat_le (offset + directory.size) (length image.bytes) then region offset directory.size what ∷ [] else []

-- the bytes that an address and a size name, if the file has them (II.25.3)
unfoldable pub named_regions : Image → List ℕ → DataDirectory → List Region
named_regions image what directory = named_at image what directory (offset_at image directory.rva directory.size)

-- the CLI header, its fields, and what it names except the metadata root (II.25.3.3)
unfoldable pub cli_regions : Image → CliHeader → List Region
cli_regions image header =
    header_regions (codes "cli header") [] header.place 72 (map (λ of. (of.0.now, of.1)) CLI_HEADER)
    ++ named_regions image (codes "resources") header.resources
    ++ named_regions image (codes "strong name signature") header.strong_name_signature
    ++ named_regions image (codes "code manager table") header.code_manager_table
    ++ named_regions image (codes "vtable fixups") header.vtable_fixups
    ++ named_regions image (codes "export address table jumps") header.export_address_table_jumps
    ++ named_regions image (codes "managed native header") header.managed_native_header
