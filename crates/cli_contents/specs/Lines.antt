-- The lines of what the metadata of a file names in the file: bodies of methods, and resources.
use Rattle.std.specs.Prelude.{◌≡◌, ℕ, nat_le, if◌then◌else◌, List, [], ◌∷◌, ◌++◌, codes, length, map, take}
use Rattle.cli_header.specs.declared.header.CliHeader.{CliHeader}
use Rattle.table_schema.specs.declared.table.TableId.TheVariants.{ManifestResource}
use Rattle.table_schema.specs.declared.token.Token.{Token}
use Rattle.table_schema.specs.Tokens.{token_at}
use Rattle.pe.specs.Headers.{section_count}
use Rattle.pe.specs.Image.{Image}
use Rattle.metadata.specs.Cell.{text_in}
use Rattle.metadata.specs.Lookups.{HasRow}
use Rattle.metadata.specs.Metadata.{Metadata, cell_in}
use Rattle.file_ranges.specs.Resources.{HasByte, IsFirstWithByte}
use Rattle.cli_lines.specs.Lines.{Part, field, number, plain, text, token, word}
use Rattle.cli_lines.specs.declared.names.Name.TheVariants as name
use Rattle.cli_contents.specs.Contents.{contents_at, name_in, table_of, word_for}
use Rattle.cli_contents.specs.declared.bodies.Body.{Body}
use Rattle.cli_contents.specs.declared.lines.Kind.{Kind}
use Rattle.cli_contents.specs.declared.lines.Kind.TheVariants.{Field, Method}

-- something with this name: where it is in the file, its size, what it is, and its token
unfoldable pub content_line : ℕ → ℕ → List ℕ → Token → List ℕ → List Part
content_line start size structure of named =
    field name.Offset (number start) ∷ word (codes " ") ∷ field name.Size (number size) ∷ word (codes " ")
    ∷ field name.Structure (plain structure) ∷ word (codes " ") ∷ field name.Token (token of)
    ∷ word (codes " ") ∷ field name.Name (text named) ∷ []

-- what a row refers to, with the name of the row
abbrev pub row_line : Kind → Metadata → Body → List Part
row_line kind model of = content_line of.start of.size (word_for kind) (token_at (table_of kind) of.row) (text_in (cell_in model (table_of kind) of.row (name_in kind)))

-- the number of methods that are printed, and that of fields
abbrev pub content_limit : ℕ
content_limit = 10

-- the largest number of sections that Windows' loader takes, by Microsoft's PE format
abbrev pub section_limit : ℕ
section_limit = 96

-- the lines of the first rows whose bodies or data contain the byte at an offset of a file
abbrev pub first_lines : Kind → Image → Metadata → ℕ → List (List Part)
first_lines kind image model offset = map (row_line kind model) (take content_limit (contents_at kind image model offset))

-- those of methods (II.22.26, II.25.4) and of fields with data (II.22.18), and none of a file with more sections
abbrev pub content_lines : Image → Metadata → ℕ → List (List Part)
content_lines image model offset =
    if nat_le (section_count image.bytes) section_limit then first_lines Method image model offset ++ first_lines Field image model offset else []

-- ---- resources (II.22.24)

abbrev pub resource_line : Metadata → ℕ → ℕ → List ℕ → List Part
resource_line model row offset content =
    content_line offset (length content) (codes "resource") (token_at ManifestResource row) (text_in (cell_in model ManifestResource row 2))

-- the line of the first resource whose content is in the file and has the byte at an offset of it; no line if there is none
abbrev pub AreOfResources : List ℕ → CliHeader → Metadata → ℕ → List (List Part) → Type 0
AreOfResources file header model at [] = (row : ℕ) → HasRow model ManifestResource row → ¬ HasByte file header model row at
AreOfResources file header model at (line ∷ []) =
    (row : ℕ) × (first : IsFirstWithByte file header model at row) × (line ≡ resource_line model row first.has.offset first.has.content)
AreOfResources file header model at _ = ⊥
