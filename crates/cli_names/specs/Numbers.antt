-- The arguments that are numbers.
use Rattle.std.specs.Prelude.{if◌then◌else◌, drop, take, ◌≡◌, ◌⊎◌, ℕ, ◌<◌, ◌≤◌, ◌^◌, List, ◌++◌, codes, length, bytes_eq}
use Rattle.std.specs.Str.Parse.{IsNumeral, digits_value}
use Rattle.table_schema.specs.declared.token.Token.{Token}
use Rattle.table_schema.specs.Tokens.{IsToken}

-- one to eight hexadecimal digits, in either case
abbrev pub IsHexNumber : List ℕ → Type 0
IsHexNumber word = IsNumeral 16 word × (length word ≤ 8)

-- the digits of an argument, which may stand after `0x`
abbrev pub digits_of : List ℕ → List ℕ
digits_of word = if bytes_eq (take 2 word) (codes "0x") then drop 2 word else word

-- eight hexadecimal digits of a token (III.1.9)
abbrev pub IsRowToken : List ℕ → Token → Type 0
IsRowToken digits token = IsNumeral 16 digits × (length digits ≡ 8) × IsToken (digits_value 16 digits) token

-- three decimal digits
abbrev pub IsCodeNumber : List ℕ → Type 0
IsCodeNumber word = IsNumeral 10 word × (length word ≡ 3)

-- two hexadecimal digits, in either case
abbrev pub IsTableNumber : List ℕ → Type 0
IsTableNumber word = IsNumeral 16 word × (length word ≡ 2)

-- the number of 64 bits that these digits denote
abbrev pub DenotesOffset : ℕ → List ℕ → ℕ → Type 0
DenotesOffset radix digits number = IsNumeral radix digits × (digits_value radix digits < 2 ^ 64) × (number ≡ digits_value radix digits)

-- the number of 64 bits that is denoted by decimal digits, or by hexadecimal digits, in either case, after `0x`
abbrev pub IsOffset : List ℕ → ℕ → Type 0
IsOffset word number = DenotesOffset 10 word number ⊎ ((digits : List ℕ) × (word ≡ codes "0x" ++ digits) × DenotesOffset 16 digits number)
