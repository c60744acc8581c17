-- An escaped text with some of its escapes read back: those of bytes, or those of letters beyond ASCII.
use Rattle.std.specs.Prelude.{ℕ, zero, suc, ◌+◌, ◌-◌, ◌*◌, ◌&&◌, Bool, not, if◌then◌else◌, List, [], ◌∷◌, ◌++◌, length, Option, None, Some, slice_get}
use Rattle.std.specs.Char.{is_ascii}
use Rattle.std.specs.Str.{chars, continuation_len, is_utf8}
use Rattle.ucd_category.specs.GeneralCategory.{general_category}
use Rattle.ucd_category.specs.GeneralCategoryGroup.{in_group}
use Rattle.ucd_category.specs.declared.GeneralCategoryGroup.TheVariants.{Other, Separator}
use Rattle.ucd_derived.specs.Binary.{is_default_ignorable_code_point}
use Rattle.cli_sending.specs.Escapes.{escaped_at, escaped_start}
use Rattle.cli_sending.specs.declared.letters.ReadBack.{ReadBack}
use Rattle.cli_sending.specs.declared.letters.ReadBack.TheVariants.{Bytes, Letters}

-- A letter, mark, number, punctuation mark or symbol beyond ASCII, by its General_Category: no control or format character,
-- surrogate, code for private use or without a character (Other), and no separator. It is not one that has no picture, such as a
-- variation selector or a filler (Default_Ignorable_Code_Point).
abbrev pub is_letter : ℕ → Bool
is_letter c = not (is_ascii c) && not (in_group Other (general_category c)) && not (in_group Separator (general_category c)) && not (is_default_ignorable_code_point c)

-- the character at the start of bytes, if they are UTF-8
abbrev pub first_char : List ℕ → Option ℕ
first_char bytes = if is_utf8 bytes then slice_get (chars bytes) 0 else None

abbrev pub if_letter : Option ℕ → List ℕ → List ℕ
if_letter None bytes = []
if_letter (Some c) bytes = if is_letter c then bytes else []

-- the bytes of the letter whose escapes are at the start of a text that begins with the escape of this byte: the byte says how
-- many more the character has
abbrev pub letter_from : ℕ → List ℕ → List ℕ
letter_from first text = if_letter (first_char (escaped_start (1 + continuation_len first) text)) (escaped_start (1 + continuation_len first) text)

abbrev pub found_from : ReadBack → Option ℕ → List ℕ → List ℕ
found_from what None text = []
found_from Bytes (Some byte) text = byte ∷ []
found_from Letters (Some byte) text = letter_from byte text

-- the bytes whose escapes at the start of a text are read back, none if there are none
unfoldable pub found_at : ReadBack → List ℕ → List ℕ
found_at what text = found_from what (escaped_at text) text

-- what is shown of a text at its start: bytes that are read back, or else a byte
abbrev pub shown_first : List ℕ → ℕ → List ℕ
shown_first [] byte = byte ∷ []
shown_first found byte = found

-- a text whose escapes are read back, but for its first bytes, this many, which are passed over; an escape has four bytes
unfoldable pub readable_after : ReadBack → ℕ → List ℕ → List ℕ
readable_after what _ [] = []
readable_after what (suc skipped) (byte ∷ tail) = readable_after what skipped tail
readable_after what zero (byte ∷ tail) =
    shown_first (found_at what (byte ∷ tail)) byte ++ readable_after what (4 * length (found_at what (byte ∷ tail)) - 1) tail

-- a text with its letters as they are
abbrev pub readable : List ℕ → List ℕ
readable text = readable_after Letters 0 text
