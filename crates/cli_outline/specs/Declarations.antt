-- The line of a declaration: its token, the type that has it, its first word, and its text.
use Rattle.std.specs.Prelude.{◌==◌, ◌||◌, ℕ, Bool, true, false, not, bit_and, List, [], ◌∷◌, codes, drop, Option, None, Some}
use Rattle.std.specs.Char.{is_ascii_whitespace}
use Rattle.std.specs.List.{before_first, prefix_len}
use Rattle.cli_outline.specs.Words.{TableId, MethodSemantics, Token, Metadata, cell_in, Part, member, note, plain, text, token, word, as_is, Tokens}
use Rattle.metadata.specs.Cell.{number_in}
use Rattle.cli_lines.specs.declared.names.Name.TheVariants as name
use Rattle.cli_names.specs.declared.source.Tokens.TheVariants.{Shown, Hidden}

-- a space or a parenthesis: the first word ends before it
abbrev pub ends_word : ℕ → Bool
ends_word byte = byte == 32 || byte == 40

-- a text without the spaces at its start
abbrev pub unindented : List ℕ → List ℕ
unindented whole = drop (prefix_len is_ascii_whitespace whole) whole

-- no part of a line
abbrev pub no_part : Part
no_part = word []

-- the member of the type, if there is one
abbrev pub type_part : Option Token → Part
type_part None = no_part
type_part (Some class) = member name.Type (token class)

-- whether the first word of a declaration is a directive: not that of an accessor none of whose flags has a word (II.23.1.12)
abbrev pub is_directive : TableId → ℕ → Bool
is_directive MethodSemantics flags = not (bit_and flags 0x3F == 0)
is_directive _ flags = true

abbrev pub has_directive : Metadata → Token → Bool
has_directive model of = is_directive of.table (number_in (cell_in model of.table of.row 0))

-- the member of the first word, if it is a directive
abbrev pub directive_part : Bool → List ℕ → Part
directive_part true declared = member name.Directive (text (before_first ends_word declared))
directive_part false declared = no_part

-- the comment with the token, if it is shown; it is in text alone
abbrev pub comment : Tokens → Token → List Part
comment Shown of = word (codes "  // ") ∷ note (token of) ∷ []
comment Hidden of = []

-- the line: in JSON it has its token even if text has none; the text of the member has no spaces at its start, and names as they are in the file
unfoldable pub declaration_line : Tokens → Token → Option Token → Bool → List ℕ → List Part
declaration_line tokens of class directive declared =
    member name.Token (token of) ∷ type_part class ∷ directive_part directive (unindented declared)
    ∷ note (plain declared) ∷ member name.Text (plain (as_is (unindented declared))) ∷ comment tokens of

-- the parts that are in a line of text, and those that are in a line of JSON, whose text is `named`
abbrev pub text_line : Tokens → Token → List ℕ → List Part
text_line tokens of declared = note (plain declared) ∷ comment tokens of

abbrev pub json_line : Token → Option Token → Bool → List ℕ → List ℕ → List Part
json_line of class directive declared named =
    member name.Token (token of) ∷ type_part class ∷ directive_part directive declared ∷ member name.Text (plain named) ∷ []
