-- What `clim compare` prints of two models (ECMA-335 II.22 and II.24.2).
use Rattle.std.specs.Prelude.{◌==◌, if◌then◌else◌, ℕ, suc, List, [], ◌∷◌, codes, length, map}
use Rattle.table_schema.specs.Tables.{table_number, table_name}
use Rattle.cli_roots.specs.Words.{Metadata, cell_in, count_in, Difference, Version, UserStrings, RowCount, Cell, Part, word, field, note, member}
use Rattle.cli_lines.specs.Lines as line
use Rattle.cli_lines.specs.Names.{column_name}
use Rattle.cli_lines.specs.declared.names.Name.TheVariants as name
use Rattle.cli_cells.specs.RowLines.{cell_value}

-- the number of bytes before the first that differs, or that one of the lists does not have
abbrev pub same_bytes : List ℕ → List ℕ → ℕ
same_bytes (byte ∷ left) (other ∷ right) = if byte == other then suc (same_bytes left right) else 0
same_bytes _ _ = 0

-- the line of something that differs, and what each model has there: the version; the user strings, by their numbers of bytes, in text
-- alone, and the offset of the first byte that differs; the rows of a table; or a cell, by its row's token and its column's name
unfoldable pub difference_line : Metadata → Metadata → Difference → List Part
difference_line left right Version =
    member name.Difference (line.plain (codes "Version")) ∷ word (codes "version: ") ∷ field name.Left (line.text left.version) ∷ word (codes " | ")
    ∷ field name.Right (line.text right.version) ∷ []
difference_line left right UserStrings =
    member name.Difference (line.plain (codes "UserStrings")) ∷ word (codes "user strings: ") ∷ note (line.number (length left.user)) ∷ word (codes " | ")
    ∷ note (line.number (length right.user)) ∷ word (codes " at ") ∷ field name.Offset (line.number (same_bytes left.user right.user)) ∷ []
difference_line left right (RowCount table of_left of_right) =
    member name.Difference (line.plain (codes "RowCount")) ∷ word (codes "rows ") ∷ note (line.byte (table_number table)) ∷ word (codes " ")
    ∷ field name.Table (line.plain (table_name table)) ∷ word (codes ": ") ∷ field name.Left (line.number (count_in left table)) ∷ word (codes " | ")
    ∷ field name.Right (line.number (count_in right table)) ∷ []
difference_line left right (Cell table row cell_index) =
    member name.Difference (line.plain (codes "Cell")) ∷ field name.Token (line.token (record { table = table; row = row })) ∷ word (codes " ")
    ∷ field name.Column (line.plain (column_name table cell_index)) ∷ word (codes ": ") ∷ field name.Left (cell_value (cell_in left table row cell_index))
    ∷ word (codes " | ") ∷ field name.Right (cell_value (cell_in right table row cell_index)) ∷ []

-- nothing differs
unfoldable pub equal_line : List Part
equal_line = word (codes "equal") ∷ member name.Equal line.yes ∷ []

-- the lines of what differs
abbrev pub compared_lines : Metadata → Metadata → List Difference → List (List Part)
compared_lines left right found = if length found == 0 then equal_line ∷ [] else map (difference_line left right) found
