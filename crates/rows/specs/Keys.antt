-- Keys of rows, which are counted from 1, and binary digits.
use Rattle.std.specs.Prelude.{ℕ, zero, suc, ◌+◌, ◌-◌, ◌^◌, ◌==◌, List, slice_index, if◌then◌else◌}

-- the key of a row
abbrev pub key_at : List ℕ → ℕ → ℕ
key_at keys row = slice_index keys (row - 1)

-- the number of binary digits of `number`, if the number before it has `digits`: a power of two starts a new digit
abbrev pub digits_after : ℕ → ℕ → ℕ
digits_after digits number = if number == 2 ^ digits then digits + 1 else digits

-- the number of binary digits of a number; 0 has none
unfoldable pub binary_digits : ℕ → ℕ
binary_digits zero = 0
binary_digits (suc number) = digits_after (binary_digits number) (suc number)
