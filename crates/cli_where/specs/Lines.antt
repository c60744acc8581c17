-- The lines of structures, and those of user strings (ECMA-335 II.22, II.24.2 and III.1.9).
use Rattle.std.specs.Prelude.{ℕ, Bool, true, false, List, [], ◌∷◌, Option, None, Some, codes, slice_index_or}
use Rattle.cli_where.specs.Words.{Kind, Strings, Guids, UserStrings, stream_name, UserText, is_padding, table_name, table_number, TableCell, Part, byte, field, hex, member, note, number, plain, units, word, Region, What, cell, entry, scalar, user_string, words, column_number, kind_of}
use Rattle.schema.specs.ColumnNames.{column_names_of}
use Rattle.cli_lines.specs.declared.names.Name.TheVariants as name
use Rattle.cli_where.specs.UserStrings.{Entry, user_token}

-- the name of the column of a cell
abbrev pub column_name : TableCell → List ℕ
column_name of = slice_index_or (column_names_of of.table) of.column []

-- the table, the row from 1, and what is in the row
abbrev pub row_parts : TableCell → List Part → List Part
row_parts of parts =
    note (byte (table_number of.table)) ∷ word (codes " ") ∷ field name.Table (plain (table_name of.table)) ∷ word (codes " row ") ∷ field name.Row (number of.row) ∷ parts

-- a column by its number and its name
abbrev pub cell_parts : TableCell → List Part
cell_parts of =
    row_parts of (word (codes " column ") ∷ note (number (column_number of)) ∷ word (codes " ") ∷ field name.Column (plain (column_name of)) ∷ [])

-- a cell, or the padding of a row, which has no number
abbrev pub cell_or_padding : Bool → TableCell → List Part
cell_or_padding true of = member name.Structure (plain (codes "padding")) ∷ word (codes "table ") ∷ row_parts of (word (codes " padding") ∷ [])
cell_or_padding false of = member name.Structure (plain (codes "cell")) ∷ word (codes "table ") ∷ cell_parts of

-- what an entry is, by its heap
abbrev pub entry_word : Kind → List ℕ
entry_word Strings = codes "string"
entry_word Guids = codes "guid"
entry_word _ = codes "blob"

-- what a structure is: an entry by its stream and the cell that names it, a user string by its stream and its token
abbrev pub what_parts : What → List Part
what_parts (words of) = field name.Structure (plain of) ∷ []
what_parts (scalar of) = field name.Structure (plain of) ∷ []
what_parts (cell of) = cell_or_padding (is_padding (kind_of of)) of
what_parts (entry heap of) =
    field name.Structure (plain (entry_word heap)) ∷ member name.Stream (plain (stream_name heap)) ∷ word (codes " of table ") ∷ cell_parts of
what_parts (user_string token) =
    field name.Structure (plain (codes "user string")) ∷ member name.Stream (plain (stream_name UserStrings))
    ∷ word (codes " ") ∷ field name.Token (hex token) ∷ []

-- the offset of a structure in the file, its number of bytes, and what it is
unfoldable pub line_with : ℕ → ℕ → List Part → List Part
line_with start size what = field name.Offset (number start) ∷ word (codes " ") ∷ field name.Size (number size) ∷ word (codes " ") ∷ what

abbrev pub structure_line : Region → List Part
structure_line of = line_with of.start of.size (what_parts of.what)

-- a user string: its token and its units
unfoldable pub string_line : ℕ → UserText → List Part
string_line token string = field name.Token (hex token) ∷ word (codes " ") ∷ units string.units ∷ []

-- the line of a user string that has bytes
abbrev pub string_lines : ℕ → UserText → Option ℕ → List (List Part)
string_lines offset string None = []
string_lines offset string (Some flag) = string_line (user_token offset) string ∷ []

abbrev pub entry_lines : Entry → List (List Part)
entry_lines of = string_lines of.offset of.string of.string.flag
