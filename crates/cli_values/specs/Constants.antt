-- The values of constants in the notation of ILAsm (ECMA-335 II.16.2, II.22.9).
use Rattle.std.specs.Prelude.{ℕ, ◌-◌, ◌%◌, ◌^◌, ◌==◌, ◌&&◌, ◌||◌, Bool, not, nat_lt, if◌then◌else◌, List, [], ◌∷◌, ◌++◌, length, take, codes, decimal, Option, None, Some, flat_map}
use Rattle.packed.specs.Number.{little_endian}
use Rattle.table_schema.specs.Tokens.{hexadecimal}
use Rattle.sig_grammar.specs.declared.element.Element.{Element}
use Rattle.sig_grammar.specs.declared.element.Element.TheVariants.{Boolean, Char, I1, U1, I2, U2, I4, U4, I8, U8, R4, R8, String}
use Rattle.sig_grammar.specs.ElementTypes.{CLASS}
use Rattle.sig_grammar.specs.Reading.{element_of}
use Rattle.sig_text.specs.SignatureText.{element_text}
use Rattle.cli_faults.specs.Escaped.{escaped_unit}
use Rattle.heap_entries.specs.UserView.{units_in}

-- ---- bytes and texts

-- the number of bytes of a value that are printed
abbrev pub value_limit : ℕ
value_limit = 0x10000

-- what marks that a value has more bytes
abbrev pub cut_mark : List ℕ → List ℕ
cut_mark bytes = if nat_lt value_limit (length bytes) then codes ".." else []

-- two hexadecimal digits for each byte of a value
unfoldable pub bytes_text : List ℕ → List ℕ
bytes_text bytes = flat_map (hexadecimal 2) (take value_limit bytes) ++ cut_mark bytes

-- bytes that are no value of their type
abbrev pub bytearray_text : List ℕ → List ℕ
bytearray_text bytes = codes "bytearray(" ++ bytes_text bytes ++ codes ")"

-- a UTF-16 unit between quotes: a quote after a backslash, and any other unit as it is or as `\u` and four hexadecimal digits
abbrev pub unit_text : ℕ → List ℕ
unit_text unit = if unit == 34 then 92 ∷ 34 ∷ [] else escaped_unit unit

-- the UTF-16 units in the bytes of a value, in quotes
unfoldable pub string_text : List ℕ → List ℕ
string_text bytes = codes "\"" ++ flat_map unit_text (units_in (take value_limit bytes)) ++ cut_mark bytes ++ codes "\""

-- ---- numbers

-- the number of bytes of a value of a type (II.23.1.16), 0 if its values are no numbers
abbrev pub size_of : Element → ℕ
size_of Boolean = 1
size_of Char = 2
size_of I1 = 1
size_of U1 = 1
size_of I2 = 2
size_of U2 = 2
size_of I4 = 4
size_of U4 = 4
size_of I8 = 8
size_of U8 = 8
size_of R4 = 4
size_of R8 = 8
size_of _ = 0

-- a truth value: any number but 0 is true (III.1.1.2)
abbrev pub truth_text : ℕ → List ℕ
truth_text number = if number == 0 then codes "false" else codes "true"

-- a number in two's complement: from `half` on it stands for a negative one, of which twice `half` is the opposite of 0
abbrev pub signed_text : ℕ → ℕ → List ℕ
signed_text half number = if nat_lt number half then decimal number else codes "-" ++ decimal (half - (number - half))

-- the bits of a floating-point number, in this many hexadecimal digits: ILAsm takes an integer as the bits
abbrev pub bits_text : ℕ → ℕ → List ℕ
bits_text digits number = codes "0x" ++ hexadecimal digits number

-- a value of a type, by the number in its bytes
abbrev pub number_text : Element → ℕ → List ℕ
number_text Boolean number = truth_text number
number_text I1 number = signed_text (2 ^ 7) number
number_text I2 number = signed_text (2 ^ 15) number
number_text I4 number = signed_text (2 ^ 31) number
number_text I8 number = signed_text (2 ^ 63) number
number_text R4 number = bits_text 8 number
number_text R8 number = bits_text 16 number
number_text _ number = decimal number

-- a value of a type whose values are numbers: the name of the type (II.7.1) and the number, if its size is that of the type
abbrev pub sized_text : Element → List ℕ → List ℕ
sized_text of bytes =
    if size_of of == 0 || not (length bytes == size_of of) then bytearray_text bytes else element_text of ++ codes "(" ++ number_text of (little_endian bytes) ++ codes ")"

-- ---- constants

-- a text, unless the last unit has one byte
abbrev pub text_or_bytes : List ℕ → List ℕ
text_or_bytes bytes = if length bytes % 2 == 0 then string_text bytes else bytearray_text bytes

-- a value of a type that one byte encodes, or bytes
abbrev pub typed_text : Option Element → List ℕ → List ℕ
typed_text None bytes = bytearray_text bytes
typed_text (Some String) bytes = text_or_bytes bytes
typed_text (Some of) bytes = sized_text of bytes

-- the null reference: of type CLASS, with four bytes of 0 (II.22.9)
abbrev pub is_null : ℕ → List ℕ → Bool
is_null code bytes = code == CLASS && length bytes == 4 && little_endian bytes == 0

-- the value of a constant, by the number of its type and its bytes
unfoldable pub constant_text : ℕ → List ℕ → List ℕ
constant_text code bytes = if is_null code bytes then codes "nullref" else typed_text (element_of code) bytes
