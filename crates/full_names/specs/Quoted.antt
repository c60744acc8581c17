-- Names as words of ILAsm: identifiers with dots between them, or texts in single quotes (ECMA-335 II.5.2, II.5.3).
use Rattle.std.specs.Prelude.{◌≡◌, ℕ, ◌==◌, ◌&&◌, ◌||◌, Bool, true, false, not, nat_le, if◌then◌else◌, ⊤, List, [], ◌∷◌, ◌++◌, length, codes, Option, Some, None}
use Rattle.std.specs.Char.{is_ascii_alphabetic, is_ascii_digit}
use Rattle.std.specs.List.{flat_map, list_all}
use Rattle.std.specs.Str.{bytes_eq}
use Rattle.table_schema.specs.Tokens.{hexadecimal}
use Rattle.full_names.specs.declared.quoted.NameKind.{NameKind}
use Rattle.full_names.specs.declared.quoted.Position.{Position}
use Rattle.full_names.specs.declared.quoted.Position.TheVariants.{Start, Within}
use Rattle.full_names.specs.declared.quoted.NameKind.TheVariants.{Identifier, Dotted, Member}

-- a letter, or one of `_ $ @`, the grave accent and `?` (II.5.2)
abbrev pub begins_identifier : ℕ → Bool
begins_identifier byte = is_ascii_alphabetic byte || byte == 95 || byte == 36 || byte == 64 || byte == 96 || byte == 63

-- the same, or a digit
abbrev pub is_in_identifier : ℕ → Bool
is_in_identifier byte = begins_identifier byte || is_ascii_digit byte

-- the position after a byte of a name of identifiers with dots between them (II.5.3), if the byte can be there
abbrev pub position_after : Position → ℕ → Option Position
position_after Start byte = if begins_identifier byte then Some Within else None
position_after Within byte = if byte == 46 then Some Start else (if is_in_identifier byte then Some Within else None)

abbrev pub holds_after : (Position → Bool) → Option Position → Bool
holds_after test None = false
holds_after test (Some position) = test position

-- from a position on, identifiers with dots between them: the last one ends within
abbrev pub is_dotted_from : Position → List ℕ → Bool
is_dotted_from Start [] = false
is_dotted_from Within [] = true
is_dotted_from position (byte ∷ tail) = holds_after (λ next. is_dotted_from next tail) (position_after position byte)

abbrev pub is_dotted : List ℕ → Bool
is_dotted name = is_dotted_from Start name

-- a single identifier
abbrev pub is_identifier : List ℕ → Bool
is_identifier name = is_dotted name && list_all (λ byte. not (byte == 46)) name

-- whether a name is what ILAsm takes for one of this kind; a constructor has a name of its own (II.15.3)
abbrev pub is_of_kind : NameKind → List ℕ → Bool
is_of_kind Identifier name = is_identifier name
is_of_kind Dotted name = is_dotted name
is_of_kind Member name = is_dotted name || bytes_eq name (codes ".ctor") || bytes_eq name (codes ".cctor")

-- whether a name is written without quotes: if it has at most 1,023 bytes
abbrev pub is_word : NameKind → List ℕ → Bool
is_word kind name = nat_le (length name) 1023 && is_of_kind kind name

-- printable ASCII but the quotes and the backslash
abbrev pub is_verbatim : ℕ → Bool
is_verbatim byte = nat_le 32 byte && nat_le byte 126 && not (byte == 34) && not (byte == 39) && not (byte == 92)

-- a byte between quotes: as it is, or as `\x` and two hexadecimal digits
abbrev pub quoted_byte : ℕ → List ℕ
quoted_byte byte = if is_verbatim byte then byte ∷ [] else 92 ∷ 120 ∷ hexadecimal 2 byte

-- a text between quotes
abbrev pub quoted_bytes : List ℕ → List ℕ
quoted_bytes text = flat_map quoted_byte text

-- the text of a name: a word as it is, and any other name in quotes
unfoldable pub name_text : NameKind → List ℕ → List ℕ
name_text kind name = if is_word kind name then name else codes "'" ++ (quoted_bytes name ++ codes "'")

-- the text of a type's name after its namespace and a dot
abbrev pub type_text : List ℕ → List ℕ → List ℕ
type_text [] name = name_text Identifier name
type_text (first ∷ tail) name = name_text Dotted (first ∷ tail) ++ (codes "." ++ name_text Identifier name)

-- ---- where the text of a name ends

-- a byte of a name without quotes
abbrev pub is_name_byte : ℕ → Bool
is_name_byte byte = is_in_identifier byte || byte == 46

-- what follows the text of a name: nothing, or a byte that no name has outside of quotes, such as a space
abbrev pub EndsName : List ℕ → Type 0
EndsName [] = ⊤
EndsName (first ∷ tail) = is_name_byte first ≡ false
