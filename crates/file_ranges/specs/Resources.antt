-- The managed resources of a file: its resources directory (ECMA-335 II.25.3.3), and where the resource in a row of
-- ManifestResource is (II.22.24).
use Rattle.std.specs.Prelude.{◌≡◌, ℕ, ◌+◌, ◌<◌, ◌≤◌, ⊤, List, [], ◌∷◌, length, Option, None, Some}
use Rattle.packed.specs.Fields.{StandAt, literal, number}
use Rattle.pe.specs.Image.{Image, IsImage}
use Rattle.pe.specs.Offset.{IsFileOffset}
use Rattle.cli_header.specs.declared.header.CliHeader.{CliHeader}
use Rattle.table_schema.specs.declared.table.TableId.{TableId}
use Rattle.table_schema.specs.declared.table.TableId.TheVariants.{ManifestResource}
use Rattle.table_schema.specs.declared.token.Token.{Token}
use Rattle.metadata.specs.Cell.{Number, Ref, Text}
use Rattle.metadata.specs.Lookups.{HasRow}
use Rattle.metadata.specs.Metadata.{Metadata, cell_in}
use Rattle.file_ranges.specs.declared.directory.Directory.{Directory}
use Rattle.file_ranges.specs.declared.location.Location.{Location}
use Rattle.file_ranges.specs.declared.location.Location.TheVariants.{Here, Elsewhere}

-- The resources directory of a file is these bytes, at this offset: the file is an image, and the bytes are those that
-- Resources of the CLI header names (II.25.3.3)
pub record IsDirectory (file : List ℕ) (header : CliHeader) (start : ℕ) (bytes : List ℕ) : Type 0 where
  pub image : Image
  pub is_image : IsImage file image
  pub named : IsFileOffset image header.resources.rva header.resources.size start
  pub long : length bytes ≡ header.resources.size
  pub bytes_are : StandAt file start (literal bytes ∷ [])

-- a content at an offset of a directory: four bytes that state its length, and then the content
abbrev pub IsContent : List ℕ → ℕ → List ℕ → Type 0
IsContent directory relative content = StandAt directory relative (number 4 (length content) ∷ literal content ∷ [])

-- the content at an offset of the resources directory of a file, and its offset in the file
pub record IsStored (file : List ℕ) (header : CliHeader) (relative offset : ℕ) (content : List ℕ) : Type 0 where
  pub start : ℕ
  pub directory : List ℕ
  pub is_directory : IsDirectory file header start directory
  pub is_content : IsContent directory relative content
  pub is_offset : offset ≡ start + relative + 4

-- where a resource is: in this file, as the bytes at an offset; or in the file or the assembly of a row
pub data Where : Type 0 where
  here : (offset : ℕ) → (content : List ℕ) → Where
  elsewhere : Token → Where

-- The resource in a row is there (II.22.24): in this file, at Offset of the resources directory, if Implementation is null;
-- else in the file or the assembly to which Implementation refers
abbrev pub IsLocation : List ℕ → CliHeader → Metadata → ℕ → Where → Type 0
IsLocation file header model row (here offset content) =
    (cell_in model ManifestResource row 3 ≡ Ref None)
    × (relative : ℕ) × (cell_in model ManifestResource row 0 ≡ Number relative) × IsStored file header relative offset content
IsLocation file header model row (elsewhere of) = cell_in model ManifestResource row 3 ≡ Ref (Some of)

-- the row of a file or an assembly exists, by the numbers of rows of tables
abbrev pub IsThere : (TableId → ℕ) → Where → Type 0
IsThere rows (here offset content) = ⊤
IsThere rows (elsewhere of) = (1 ≤ of.row) × (of.row ≤ rows of.table)

-- ---- names

abbrev pub HasName : Metadata → List ℕ → ℕ → Type 0
HasName model name row = cell_in model ManifestResource row 2 ≡ Text name

-- the first row of a resource with this name
pub record IsFirstNamed (model : Metadata) (name : List ℕ) (row : ℕ) : Type 0 where
  pub there : HasRow model ManifestResource row
  pub names : HasName model name row
  pub first : (earlier : ℕ) → 1 ≤ earlier → earlier < row → ¬ HasName model name earlier

-- ---- bytes

-- the resource in a row is in this file, and its content has the byte at an offset of the file
pub record HasByte (file : List ℕ) (header : CliHeader) (model : Metadata) (row at : ℕ) : Type 0 where
  pub offset : ℕ
  pub content : List ℕ
  pub is_location : IsLocation file header model row (here offset content)
  pub begun : offset ≤ at
  pub not_ended : at < offset + length content

-- the first row of such a resource
pub record IsFirstWithByte (file : List ℕ) (header : CliHeader) (model : Metadata) (at row : ℕ) : Type 0 where
  pub there : HasRow model ManifestResource row
  pub has : HasByte file header model row at
  pub first : (earlier : ℕ) → 1 ≤ earlier → earlier < row → ¬ HasByte file header model earlier at

-- ---- the values of the program

-- what the program found of the resources directory of a file
abbrev pub IsDirectoryOf : List ℕ → CliHeader → Option Directory → Type 0
IsDirectoryOf file header None = (start : ℕ) (bytes : List ℕ) → ¬ IsDirectory file header start bytes
IsDirectoryOf file header (Some found) = IsDirectory file header found.start found.bytes.now

abbrev pub seen : Location → Where
seen (Here content) = here content.offset content.bytes.now
seen (Elsewhere of) = elsewhere of
