-- When the bytes that MetaData names have nothing but the metadata in them (ECMA-335 II.25).
use Rattle.std.specs.Prelude.{◌≡◌, ◌≢◌, ℕ, ◌+◌, ◌-◌, ◌*◌, ◌%◌, ◌<◌, ◌≤◌, ◌⊎◌, List, [], ◌∷◌}
use Rattle.packed.specs.Offsets.{part}
use Rattle.pe.specs.Headers.{section_count, directory_count, optional_header_size, wider}
use Rattle.cli_header.specs.declared.header.CliHeader.{CliHeader}
use Rattle.cli_header.specs.declared.header.DataDirectory.{DataDirectory}
use Rattle.table_schema.specs.declared.table.TableId.TheVariants.{MethodDef, Field, FieldRVA}
use Rattle.heap_entries.specs.Entries.{IsBlob}
use Rattle.metadata.specs.Source.{Source, rows_in, number_of}
use Rattle.file_ranges.specs.Bodies.{EndsWithin}
use Rattle.file_ranges.specs.ClassSizes.{MayHaveLayout, class_size}
use Rattle.file_ranges.specs.FieldData.{value_type, signature_size}
use Rattle.file_ranges.specs.Fields.{number_at, directory_offset, virtual_address, raw_size, raw_offset}

-- two ranges have no byte in common: each is given by its begin and its size
abbrev pub AreApart : ℕ → ℕ → ℕ → ℕ → Type 0
AreApart start size other other_size = (size ≡ 0) ⊎ ((start + size ≤ other) ⊎ (other + other_size ≤ start))

-- these bytes in memory are not of the metadata
abbrev pub IsApart : CliHeader → ℕ → ℕ → Type 0
IsApart header rva size = AreApart rva size header.metadata.rva header.metadata.size

-- what the CLI header names, but for the metadata (II.25.3.3)
abbrev pub named : CliHeader → List DataDirectory
named header =
    header.resources
    ∷ header.strong_name_signature
    ∷ header.code_manager_table
    ∷ header.vtable_fixups
    ∷ header.export_address_table_jumps
    ∷ header.managed_native_header
    ∷ []

abbrev pub AreAllApart : CliHeader → List DataDirectory → Type 0
AreAllApart header [] = Unit {0}
AreAllApart header (directory ∷ directories) = IsApart header directory.rva directory.size × AreAllApart header directories

-- a data directory is apart from the metadata, unless it is the fifth: the Certificate Table names no memory (II.25.2.3.3)
pub record IsDirectoryApart (header : CliHeader) (file : List ℕ) (index : ℕ) : Type 0 where
  pub apart : index ≢ 4 → IsApart header (number_at file (directory_offset file index)) (number_at file (directory_offset file index + 4))

-- the data directories of the sixteen that are counted and end within the optional header
abbrev pub AreDirectoriesApart : CliHeader → List ℕ → Type 0
AreDirectoriesApart header file =
    (index : ℕ) → index < 16 → index < directory_count file → 104 + wider file + 8 * index ≤ optional_header_size file
    → IsDirectoryApart header file index

-- a section has no byte of the metadata's part of the file, or it puts that part at the same address (II.25.3)
pub record IsSectionApart (header : CliHeader) (file : List ℕ) (index : ℕ) : Type 0 where
  pub apart :
      AreApart (raw_offset file index) (raw_size file index) header.root.start header.metadata.size
      ⊎ (virtual_address file index + header.root.start ≡ header.metadata.rva + raw_offset file index)

abbrev pub AreSectionsApart : CliHeader → List ℕ → Type 0
AreSectionsApart header file = (index : ℕ) → index < section_count file → IsSectionApart header file index

-- The code that begins at an address ends before the metadata, or begins after it. `lowest` is the address of the section
-- that has the metadata: bodies of other sections are apart from it. What is no body of CIL, by ImplFlags (II.23.1.10), is
-- known by its first byte only.
abbrev pub IsCodeApart : CliHeader → List ℕ → ℕ → ℕ → ℕ → Type 0
IsCodeApart header file lowest rva impl_flags =
    (rva < lowest)
    ⊎ ((header.metadata.rva + header.metadata.size ≤ rva)
    ⊎ ((rva < header.metadata.rva) × ((impl_flags % 4 ≢ 0)
    ⊎ EndsWithin (part file (header.root.start + rva - header.metadata.rva) (header.metadata.rva - rva)))))

-- the body of each row of MethodDef (II.22.26)
abbrev pub AreBodiesApart : CliHeader → List ℕ → Source → ℕ → Type 0
AreBodiesApart header file source lowest =
    (row : ℕ) → 1 ≤ row → row ≤ rows_in source MethodDef
    → IsCodeApart header file lowest (number_of source MethodDef row 0) (number_of source MethodDef row 1)

-- data at an address is apart if it has the type of a row of TypeDef: it has a ClassSize that the type may have (II.22.8)
abbrev pub IsTypeApart : CliHeader → Source → ℕ → ℕ → Type 0
IsTypeApart header source rva row = (layout : ℕ) → MayHaveLayout source row layout → IsApart header rva (class_size source layout)

-- Data of a field with a signature is apart: it has a simple type, or a type that has a row of ClassLayout. Of any other
-- data only the first byte is known.
pub record IsValueApart (header : CliHeader) (source : Source) (rva : ℕ) (signature : List ℕ) : Type 0 where
  pub simple : IsApart header rva (signature_size signature)
  pub of_type : IsTypeApart header source rva (value_type signature)

-- the data of a row of FieldRVA, whose field has a signature (II.22.18)
pub record IsRowApart (header : CliHeader) (source : Source) (row : ℕ) : Type 0 where
  pub first : 1 ≤ number_of source FieldRVA row 1
  pub last : number_of source FieldRVA row 1 ≤ rows_in source Field
  pub signature : List ℕ
  pub is_signature : IsBlob source.blobs (number_of source Field (number_of source FieldRVA row 1) 2) signature
  pub apart : IsValueApart header source (number_of source FieldRVA row 0) signature

-- the data of each row of FieldRVA
abbrev pub IsDataApart : CliHeader → Source → Type 0
IsDataApart header source = (row : ℕ) → 1 ≤ row → row ≤ rows_in source FieldRVA → IsRowApart header source row

-- a section has all of the metadata, at its address and its file offset (II.25.3)
pub record HasMetadata (header : CliHeader) (file : List ℕ) (index : ℕ) : Type 0 where
  pub begin : virtual_address file index ≤ header.metadata.rva
  pub «end» : header.metadata.rva + header.metadata.size ≤ virtual_address file index + raw_size file index
  pub offset : virtual_address file index + header.root.start ≡ header.metadata.rva + raw_offset file index

-- the address of the first section that has all of the metadata
pub record IsLowest (header : CliHeader) (file : List ℕ) (lowest : ℕ) : Type 0 where
  pub index : ℕ
  pub counted : index < section_count file
  pub address : lowest ≡ virtual_address file index
  pub has : HasMetadata header file index
  pub first : (earlier : ℕ) → earlier < index → ¬ HasMetadata header file earlier

-- nothing of the file but the metadata is in the range that MetaData names
pub record IsFree (header : CliHeader) (file : List ℕ) (source : Source) : Type 0 where
  pub lowest : ℕ
  pub is_lowest : IsLowest header file lowest
  pub cli_header : AreApart header.place 72 header.root.start header.metadata.size
  pub named : AreAllApart header (named header)
  pub directories : AreDirectoriesApart header file
  pub sections : AreSectionsApart header file
  pub bodies : AreBodiesApart header file source lowest
  pub field_data : IsDataApart header source
