-- What `clim show` prints: the rows of a model's tables, one on a line (ECMA-335 II.22).
use Rattle.std.specs.Prelude.{◌==◌, ℕ, if◌then◌else◌, List, [], ◌∷◌, ◌++◌, codes, flat_map, map}
use Rattle.std.specs.List.{range_with_len}
use Rattle.cli_cells.specs.Words.{TableId, Token, table_number, table_name, cell_count, short, Cell, Number, Text, Bytes, Guid, Ref, Start, Sig, Metadata, Part, Value, word, field, note, row_number, row_token, spaced, label_text, name_text}
use Rattle.cli_lines.specs.Lines as line
use Rattle.cli_lines.specs.declared.names.Name.{Name}
use Rattle.cli_lines.specs.declared.names.Name.TheVariants as name
use Rattle.cli_cells.specs.Shown.{Content, content_of}
use Rattle.cli_cells.specs.SignatureText.{signature_text}
use Rattle.cli_cells.specs.declared.row_lines.Names.{Names}
use Rattle.cli_cells.specs.declared.row_lines.Names.TheVariants.{Hidden, Shown}

-- a number; a text in quotes; bytes; a GUID; a token; the row of a start; a signature, by its canonical encoding
abbrev pub cell_value : Cell → Value
cell_value (Number number) = line.number number
cell_value (Text text) = line.quoted text
cell_value (Bytes bytes) = line.bytes bytes
cell_value (Guid guid) = line.guid guid
cell_value (Ref token) = line.reference token
cell_value (Start row) = line.start row
cell_value (Sig signature) = line.signature (short signature) (signature_text signature)

-- what a cell begins with, if columns are named: a space, the name of its column and an equals sign
unfoldable pub cell_label : Names → TableId → ℕ → List Part
cell_label Hidden table cell_index = []
cell_label Shown table cell_index = word (label_text (name_text (name.Cell table cell_index))) ∷ []

-- the value of a cell: if columns are not named, after a space
abbrev pub cell_part : Names → Name → Value → Part
cell_part Hidden key value = spaced key value
cell_part Shown key value = field key value

-- a cell of a row; in JSON the member with the name of its column
abbrev pub cell_parts : Names → Content → TableId → ℕ → ℕ → List Part
cell_parts names content table row cell_index =
    cell_label names table cell_index ++ cell_part names (name.Cell table cell_index) (cell_value (content.cell table row cell_index)) ∷ []

-- what a row begins with: its number and a colon, or its token if columns are named; in JSON its table, number and token
abbrev pub row_head : Names → Token → Part
row_head Hidden row = row_number row
row_head Shown row = row_token row

-- the line of a row
abbrev pub row_line : Names → Content → TableId → ℕ → List Part
row_line names content table row = row_head names (record { table = table; row = row }) ∷ flat_map (cell_parts names content table row) (range_with_len 0 (cell_count table))

-- the line before the rows of a table: its number, its name and how many rows it has; no line in JSON
unfoldable pub heading_line : TableId → ℕ → List Part
heading_line table count =
    word (codes "table ") ∷ note (line.byte (table_number table)) ∷ word (codes " ") ∷ word (table_name table) ∷ word (codes " ")
    ∷ note (line.number count) ∷ []

-- the first rows of a table after its heading; nothing if there are none
unfoldable pub first_lines : Names → Content → TableId → ℕ → List (List Part)
first_lines names content table rows =
    if rows == 0 then [] else heading_line table (content.count table) ∷ map (row_line names content table) (range_with_len 1 rows)

-- all rows of these tables, one table after another
abbrev pub show_lines : Names → Metadata → List TableId → List (List Part)
show_lines names model tables = flat_map (λ table. first_lines names (content_of model) table ((content_of model).count table)) tables
