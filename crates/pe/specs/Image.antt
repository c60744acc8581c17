-- A PE file (ECMA-335 II.25.2 and II.25.3; PE32+ by Microsoft's PE format): the relation between the bytes of a
-- file and the values in its headers.
use Rattle.std.specs.Prelude.{◌≡◌, ℕ, ◌+◌, ◌≤◌, List, [], ◌∷◌, ◌++◌, length, codes}
use Rattle.std.specs.List.{flat_map}
use Rattle.pe.specs.declared.section.SectionHeader.{SectionHeader}
use Rattle.packed.specs.Limit.{byte_limit}
use Rattle.packed.specs.Fields.{Field, literal, number, ignored, StandAt}

-- an image: its bytes, the CLI header's RVA and size, the file offset of these two, and the section headers
-- in file order
pub record Image : Type 0 where
  pub bytes : List ℕ
  pub cli_directory : ℕ × ℕ
  pub cli_directory_offset : ℕ
  pub sections : List SectionHeader

-- the two formats of an image
pub data Format : Type 0 where
  pe32 : Format
  pe32_plus : Format

-- Magic, which distinguishes the two formats (II.25.2.3.1)
abbrev pub magic_of : Format → ℕ
magic_of pe32 = 0x10B
magic_of pe32_plus = 0x20B

-- the number of bytes that the format has more than PE32 before the data directories
abbrev pub wider_by : Format → ℕ
wider_by pe32 = 0
wider_by pe32_plus = 16

-- the MS-DOS header (II.25.2.1): `MZ`, 58 other bytes, and lfanew, the offset of the PE signature
abbrev pub dos_header : ℕ → List Field
dos_header lfanew = literal (codes "MZ") ∷ ignored 58 ∷ number 4 lfanew ∷ []

-- the PE signature: `PE` and two NULs (II.25.2.1)
abbrev pub pe_signature : List ℕ
pe_signature = 0x50 ∷ 0x45 ∷ 0 ∷ 0 ∷ []

-- the PE file header (II.25.2.2): Machine; Number of Sections; Time/Date Stamp, Pointer to Symbol Table and Number of
-- Symbols; Optional Header Size; Characteristics
abbrev pub file_header : ℕ → ℕ → List Field
file_header section_count optional_header_size =
    ignored 2 ∷ number 2 section_count ∷ ignored 12 ∷ number 2 optional_header_size ∷ ignored 2 ∷ []

-- the optional header (II.25.2.3): Magic; the other fields up to Number of Data Directories; this number; fourteen data
-- directories of eight bytes; the fifteenth, which is the CLI header's; `left` more bytes
abbrev pub optional_header : Format → ℕ → ℕ × ℕ → ℕ → List Field
optional_header format directory_count cli_directory left =
    number 2 (magic_of format)
    ∷ ignored (90 + wider_by format)
    ∷ number 4 directory_count
    ∷ ignored 112
    ∷ number 4 cli_directory.0
    ∷ number 4 cli_directory.1
    ∷ ignored left
    ∷ []

-- a section header (II.25.3): Name and VirtualSize; VirtualAddress; SizeOfRawData; PointerToRawData; the other fields
abbrev pub section_header : SectionHeader → List Field
section_header section =
    ignored 12
    ∷ number 4 section.virtual_address
    ∷ number 4 section.size_of_raw_data
    ∷ number 4 section.pointer_to_raw_data
    ∷ ignored 16
    ∷ []

-- The file, of at most 2^30 bytes, is this image. The MS-DOS header is at offset 0. At lfanew follow the PE
-- signature, the PE file header, an optional header with at least fifteen data directories, and the section headers.
pub record IsImage (file : List ℕ) (image : Image) : Type 0 where
  pub lfanew : ℕ
  pub format : Format
  pub directory_count : ℕ
  pub left : ℕ
  pub small : length file ≤ byte_limit
  pub dos : StandAt file 0 (dos_header lfanew)
  pub headers : StandAt file lfanew (literal pe_signature ∷ file_header (length image.sections) (216 + wider_by format + left)
      ++ optional_header format directory_count image.cli_directory left
      ++ flat_map section_header image.sections)
  pub directories : 15 ≤ directory_count
  pub bytes_are : image.bytes ≡ file
  pub offset_is : image.cli_directory_offset ≡ lfanew + 232 + wider_by format
