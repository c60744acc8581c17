-- The fields of a header, which follow one another without gaps (ECMA-335 II.25).
use Rattle.std.specs.Prelude.{◌≡◌, ℕ, ◌+◌, List, [], ◌∷◌, ◌++◌, length}
use Rattle.packed.specs.Number.{little_endian, IsNumber}
use Rattle.packed.specs.Offsets.{part}

-- a field: fixed bytes, a number in `count` bytes, or `count` bytes that can have any value
pub data Field : Type 0 where
  literal : (expected : List ℕ) → Field
  number : (count value : ℕ) → Field
  ignored : (count : ℕ) → Field

-- the bytes encode the field
abbrev pub IsField : Field → List ℕ → Type 0
IsField (literal expected) bytes = bytes ≡ expected
IsField (number count value) bytes = IsNumber count bytes value
IsField (ignored count) bytes = length bytes ≡ count

-- the bytes encode these fields, one after another
abbrev pub AreFields : List Field → List ℕ → Type 0
AreFields [] bytes = bytes ≡ []
AreFields (field ∷ fields) bytes =
    (prefix : List ℕ) × (tail : List ℕ) × (bytes ≡ prefix ++ tail) × IsField field prefix × AreFields fields tail

-- the fields begin at an offset of the whole
pub record StandAt (whole : List ℕ) (offset : ℕ) (fields : List Field) : Type 0 where
  pub before : List ℕ
  pub bytes : List ℕ
  pub after : List ℕ
  pub split : whole ≡ before ++ (bytes ++ after)
  pub behind : length before ≡ offset
  pub are : AreFields fields bytes

-- the number of bytes of a field
abbrev pub width : Field → ℕ
width (literal expected) = length expected
width (number count value) = count
width (ignored count) = count

-- the number of bytes of all the fields together
abbrev pub widths : List Field → ℕ
widths [] = 0
widths (field ∷ fields) = width field + widths fields

-- the bytes of the whole at an offset have the value that the field states
abbrev pub Says : List ℕ → ℕ → Field → Type 0
Says whole offset (literal expected) = part whole offset (length expected) ≡ expected
Says whole offset (number count value) = value ≡ little_endian (part whole offset count)
Says whole offset (ignored count) = Unit {0}

-- the bytes at an offset have the values that the fields state, one field after another
abbrev pub AllSay : List ℕ → ℕ → List Field → Type 0
AllSay whole offset [] = Unit {0}
AllSay whole offset (field ∷ fields) = Says whole offset field × AllSay whole (offset + width field) fields
