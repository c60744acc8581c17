-- Decoding the packed number at the start of bytes (ECMA-335 II.23.2): its value and length, or None if there is none.
use Rattle.std.specs.Prelude.{ℕ, ◌+◌, ◌-◌, ◌*◌, ◌/◌, ◌%◌, ◌^◌, ◌==◌, ℤ, pos, ◌-ℤ◌, List, [], ◌∷◌, Option, Some, None, option_map, nat_lt, if◌then◌else◌}

-- a number of two bytes: the value and the length, given the first byte and the bytes after it
abbrev pub two_at : ℕ → List ℕ → Option (ℕ × ℕ)
two_at a [] = None
two_at a (b ∷ tail) = Some ((a - 0x80) * 2 ^ 8 + b, 2)

-- a number of four bytes: the value and the length, given the first byte and the bytes after it
abbrev pub four_at : ℕ → List ℕ → Option (ℕ × ℕ)
four_at a (b ∷ c ∷ d ∷ tail) = Some ((a - 0xC0) * 2 ^ 24 + b * 2 ^ 16 + c * 2 ^ 8 + d, 4)
four_at a _ = None

unfoldable pub unsigned_at : List ℕ → Option (ℕ × ℕ)
unsigned_at [] = None
unsigned_at (a ∷ tail) =
    if nat_lt a 0x80 then Some (a, 1)
    else (if nat_lt a 0xC0 then two_at a tail else (if nat_lt a 0xE0 then four_at a tail else None))

-- the number of value bits in the form of 1, 2 or 4 bytes
abbrev pub bits_of : ℕ → ℕ
bits_of count = if count == 1 then 7 else (if count == 2 then 14 else 29)

-- the signed number whose w bits, rotated left by one, are the number n (II.23.2)
abbrev pub unrotated : ℕ → ℕ → ℤ
unrotated w n = if n % 2 == 0 then pos (n / 2) else pos (n / 2) -ℤ pos (2 ^ (w - 1))

unfoldable pub signed_at : List ℕ → Option (ℤ × ℕ)
signed_at bytes = option_map (λ found. (unrotated (bits_of found.1) found.0, found.1)) (unsigned_at bytes)
