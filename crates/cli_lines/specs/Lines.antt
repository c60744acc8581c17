-- The lines of a report, and their text in each form.
use Rattle.std.specs.Prelude.{ℕ, true, if◌then◌else◌, List, [], ◌∷◌, ◌++◌, codes, decimal, map, Option, None, Some}
use Rattle.std.specs.List.{flat_map}
use Rattle.std.specs.Char.Utf16.{has_unpaired_surrogate, utf16_lossy_chars}
use Rattle.std.specs.Str.{encode_utf8_all}
use Rattle.json.specs.Token as json
use Rattle.json.specs.Print.{print, print_from}
use Rattle.uuid.specs.Text.{hyphenated_text, lower}
use Rattle.heap_entries.specs.GuidText.{as_read}
use Rattle.table_schema.specs.declared.token.Token.{Token}
use Rattle.table_schema.specs.Tables.{table_name}
use Rattle.table_schema.specs.Tokens.{hexadecimal, token_text}
use Rattle.cli_faults.specs.Escaped.{escaped_text, escaped_unit}
use Rattle.cli_sending.specs.Letters.{readable}
use Rattle.cli_lines.specs.Names.{name_text}
use Rattle.cli_faults.specs.Hexadecimal.{upper_hexadecimal}
use Rattle.cli_lines.specs.Texts.{escaped_bytes}
use Rattle.cli_lines.specs.declared.line.Before.{Before}
use Rattle.cli_lines.specs.declared.line.Before.TheVariants as before
use Rattle.cli_lines.specs.declared.names.Name.{Name}
use Rattle.cli_lines.specs.declared.names.Name.TheVariants as name
use Rattle.cli_lines.specs.declared.parts.Form.{Form}
use Rattle.cli_lines.specs.declared.parts.Form.TheVariants.{Text, Letters, JsonLines}

pub data Value : Type 0 where
  number : ℕ → Value
  hex : ℕ → Value
  byte : ℕ → Value
  text : List ℕ → Value
  plain : List ℕ → Value
  token : Token → Value
  reference : Option Token → Value
  quoted : List ℕ → Value
  bytes : List ℕ → Value
  guid : Option (List ℕ) → Value
  start : ℕ → Value
  -- the bytes and the text of a signature
  signature : List ℕ → List ℕ → Value
  yes : Value
  null : Value

-- a part of a line
pub data Part : Type 0 where
  -- in a line of text these bytes
  word : List ℕ → Part
  -- in a line of text the value, and in JSON the member with this name
  field : Name → Value → Part
  -- in a line of text the value
  note : Value → Part
  -- in JSON the member with this name
  member : Name → Value → Part
  -- a field after a space
  spaced : Name → Value → Part
  -- a row of a table: in a line of text its number and a colon, or its token; in JSON its table, number and token
  row_number : Token → Part
  row_token : Token → Part
  -- the UTF-16 units of a user string
  units : List ℕ → Part
  -- in JSON the start and the end of a member that is an object
  opens : Name → Part
  closes : Part

-- the end of a line
abbrev pub line_feed : List ℕ
line_feed = 10 ∷ []

-- a GUID as a text
abbrev pub guid_text : List ℕ → List ℕ
guid_text of = hyphenated_text lower (as_read of)

-- bytes in hexadecimal, in brackets
abbrev pub bracketed : List ℕ → List ℕ
bracketed of = codes "<" ++ escaped_bytes of ++ codes ">"

-- ---- a line of text

abbrev pub value_text : Value → List ℕ
value_text (number n) = decimal n
value_text (hex n) = hexadecimal 8 n
value_text (byte n) = upper_hexadecimal n
value_text (text of) = escaped_text of
value_text (plain of) = of
value_text (token of) = token_text of
value_text (reference None) = codes "null"
value_text (reference (Some of)) = token_text of
value_text (quoted of) = codes "\"" ++ escaped_text of ++ codes "\""
value_text (bytes of) = bracketed of
value_text (guid None) = codes "null"
value_text (guid (Some of)) = codes "{" ++ guid_text of ++ codes "}"
value_text (start n) = codes "+" ++ decimal n
value_text (signature blob of) = bracketed blob
value_text yes = codes "true"
value_text null = codes "null"

abbrev pub part_text : Part → List ℕ
part_text (word of) = of
part_text (field _ value) = value_text value
part_text (note value) = value_text value
part_text (spaced _ value) = codes " " ++ value_text value
part_text (row_number of) = decimal of.row ++ codes ":"
part_text (row_token of) = token_text of
part_text (units of) = flat_map escaped_unit of
part_text _ = []

-- the same with letters beyond ASCII as they are
abbrev pub part_letters : Part → List ℕ
part_letters part = readable (part_text part)

-- ---- a line of JSON: the tokens of an object

abbrev pub named_token : Name → json.Token
named_token named = json.key (name_text named)

-- digits are a string of what they are in a line of text, and so is a plain text
abbrev pub value_tokens : Value → List json.Token
value_tokens (number n) = json.number (decimal n) ∷ []
value_tokens (text of) = json.string of ∷ []
value_tokens (reference None) = json.null ∷ []
value_tokens (quoted of) = json.string of ∷ []
value_tokens (bytes of) = json.string (escaped_bytes of) ∷ []
value_tokens (guid None) = json.null ∷ []
value_tokens (guid (Some of)) = json.string (guid_text of) ∷ []
value_tokens (start n) = json.number (decimal n) ∷ []
value_tokens (signature blob of) =
    json.begin_object ∷ named_token name.Blob ∷ json.string (escaped_bytes blob) ∷ named_token name.Text ∷ json.string of ∷ json.end_object ∷ []
value_tokens yes = json.boolean true ∷ []
value_tokens null = json.null ∷ []
value_tokens digits = json.string (value_text digits) ∷ []

-- numbers, and the end of their array
abbrev pub items_tokens : List ℕ → List json.Token
items_tokens of = map (λ unit. json.number (decimal unit)) of ++ json.end_array ∷ []

-- units as a text, or as an array of numbers if a surrogate among them has no partner, because then they are not a text
abbrev pub units_tokens : List ℕ → List json.Token
units_tokens of =
    if has_unpaired_surrogate of then named_token name.Units ∷ json.begin_array ∷ items_tokens of
    else named_token name.Text ∷ json.string (encode_utf8_all (utf16_lossy_chars of)) ∷ []

-- what follows the name of the first member of a row
abbrev pub row_values : Token → List json.Token
row_values of = json.string (table_name of.table) ∷ named_token name.Row ∷ json.number (decimal of.row) ∷ named_token name.Token ∷ json.string (token_text of) ∷ []

abbrev pub row_tokens : Token → List json.Token
row_tokens of = named_token name.Table ∷ row_values of

abbrev pub part_tokens : Part → List json.Token
part_tokens (field named value) = named_token named ∷ value_tokens value
part_tokens (member named value) = named_token named ∷ value_tokens value
part_tokens (spaced named value) = named_token named ∷ value_tokens value
part_tokens (row_number of) = row_tokens of
part_tokens (row_token of) = row_tokens of
part_tokens (units of) = units_tokens of
part_tokens (opens named) = named_token named ∷ json.begin_object ∷ []
part_tokens closes = json.end_object ∷ []
part_tokens _ = []

-- the member that a line begins with if it has the name of a file
abbrev pub file_tokens : Option (List ℕ) → List json.Token
file_tokens None = []
file_tokens (Some file) = named_token name.File ∷ json.string file ∷ []

-- The text of an object with these tokens, from where the printer is: all of it at the start of a line, and what follows an
-- opening brace or a value. At the start the name of the file comes first. A line without tokens is no line.
abbrev pub json_from : Option (List ℕ) → Before → List json.Token → List ℕ
json_from file before.Line [] = []
json_from file before.Line (next ∷ tokens) = print (json.begin_object ∷ (file_tokens file ++ next ∷ (tokens ++ json.end_object ∷ []))) ++ line_feed
json_from file before.Brace tokens = print (tokens ++ json.end_object ∷ []) ++ line_feed
json_from file before.Value tokens = print_from true (tokens ++ json.end_object ∷ []) ++ line_feed

-- ---- a line in a style

-- a form, and the name of the file that each line begins with, if there is one
pub record Style : Type 0 where
  pub form : Form
  pub file : Option (List ℕ)

abbrev pub style : Form → Option (List ℕ) → Style
style form file = record { form = form; file = file }

-- in a line of text the name of the file comes first, then a colon and a space
abbrev pub lead : Form → Option (List ℕ) → List ℕ
lead Text (Some file) = escaped_text file ++ codes ": "
lead Letters (Some file) = readable (escaped_text file) ++ codes ": "
lead form file = []

abbrev pub form_from : Form → Option (List ℕ) → Before → List Part → List ℕ
form_from Text file at parts = flat_map part_text parts ++ line_feed
form_from Letters file at parts = flat_map part_letters parts ++ line_feed
form_from JsonLines file at parts = json_from file at (flat_map part_tokens parts)

-- these parts, and the end of the line, from where the printer is
unfoldable pub line_from : Style → Before → List Part → List ℕ
line_from of at parts = form_from of.form of.file at parts

abbrev pub line_text : Style → List Part → List ℕ
line_text of parts = lead of.form of.file ++ line_from of before.Line parts

-- ---- a report

unfoldable pub styled_text : Style → List (List Part) → List ℕ
styled_text of lines = flat_map (line_text of) lines

-- a report that does not begin its lines with the name of a file
abbrev pub report_text : Form → List (List Part) → List ℕ
report_text form lines = styled_text (style form None) lines
