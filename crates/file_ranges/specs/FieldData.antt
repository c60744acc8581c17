-- The size of the data of a field with an RVA, by its signature (ECMA-335 II.22.18, II.23.1.16 and II.23.2.4).
use Rattle.std.specs.Prelude.{ℕ, ◌%◌, ◌/◌, ◌==◌, ◌||◌, if◌then◌else◌, List, [], ◌∷◌, Option, Some, None}
use Rattle.packed.specs.Prefix.{unsigned_at}

-- the size of a value of a simple type, in bytes (II.23.1.16); 1 for all others
abbrev pub simple_size : ℕ → ℕ
simple_size element =
    if element == 0x03 || element == 0x06 || element == 0x07 then 2
    else (if element == 0x08 || element == 0x09 || element == 0x0C then 4
    else (if element == 0x0A || element == 0x0B || element == 0x0D then 8 else 1))

-- the row of TypeDef that a coded index names, or 0 if it names no such row (II.23.2.8)
abbrev pub type_row : Option (ℕ × ℕ) → ℕ
type_row None = 0
type_row (Some read) = if read.0 % 4 == 0 then read.0 / 4 else 0

-- the row of TypeDef that is the type of a field with this signature, or 0 if there is none (II.23.2.4)
abbrev pub value_type : List ℕ → ℕ
value_type [] = 0
value_type (prolog ∷ []) = 0
value_type (prolog ∷ (element ∷ index)) = if element == 0x11 then type_row (unsigned_at index) else 0

-- the size of the data of a field with this signature, if its type is no row of TypeDef
abbrev pub signature_size : List ℕ → ℕ
signature_size [] = 1
signature_size (prolog ∷ []) = 1
signature_size (prolog ∷ (element ∷ index)) = simple_size element
