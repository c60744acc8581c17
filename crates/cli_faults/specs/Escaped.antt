-- Texts and UTF-16 units, escaped as printable ASCII.
use Rattle.std.specs.Prelude.{◌==◌, ◌&&◌, ℕ, Bool, not, nat_le, if◌then◌else◌, List, [], ◌∷◌}
use Rattle.std.specs.List.{flat_map}
use Rattle.table_schema.specs.Tokens.{hexadecimal}

-- printable ASCII except the backslash
abbrev pub is_printable : ℕ → Bool
is_printable unit = nat_le 32 unit && nat_le unit 126 && not (unit == 92)

-- printable ASCII except the quote and the backslash
abbrev pub is_plain : ℕ → Bool
is_plain byte = is_printable byte && not (byte == 34)

-- a plain byte is printed as it is, and any other as `\x` and two hexadecimal digits
abbrev pub escaped_byte : ℕ → List ℕ
escaped_byte byte = if is_plain byte then byte ∷ [] else 92 ∷ 120 ∷ hexadecimal 2 byte

-- a printable unit is printed as it is, and any other as `\u` and four hexadecimal digits
abbrev pub escaped_unit : ℕ → List ℕ
escaped_unit unit = if is_printable unit then unit ∷ [] else 92 ∷ 117 ∷ hexadecimal 4 unit

-- a text, escaped byte by byte
abbrev pub escaped_text : List ℕ → List ℕ
escaped_text bytes = flat_map escaped_byte bytes
