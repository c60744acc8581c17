-- Packed numbers (ECMA-335 II.23.2): one, two or four bytes, high byte first. The size of the number decides which
-- forms can hold it. A form that is longer than needed is a valid encoding too.
use Rattle.std.specs.Prelude.{◌≡◌, ℕ, ◌+◌, ◌-◌, ◌*◌, ◌/◌, ◌%◌, ◌^◌, ◌<◌, ◌⊎◌, ℤ, pos, ◌≤ℤ◌, ◌<ℤ◌, List, [], ◌∷◌, Bool, not, ◌&&◌, nat_lt, int_lt, neg_ℤ, unsigned_abs, if◌then◌else◌}
use Rattle.std.specs.Int.{int_rem_euclid}

-- the bytes of each form, high byte first: of n itself, of 0x8000 + n, and of 0xC0000000 + n
abbrev pub one_byte : ℕ → List ℕ
one_byte n = n ∷ []

abbrev pub two_bytes : ℕ → List ℕ
two_bytes n = (0x80 + n / 2 ^ 8) ∷ (n % 2 ^ 8) ∷ []

abbrev pub four_bytes : ℕ → List ℕ
four_bytes n = (0xC0 + n / 2 ^ 24) ∷ (n / 2 ^ 16 % 2 ^ 8) ∷ (n / 2 ^ 8 % 2 ^ 8) ∷ (n % 2 ^ 8) ∷ []

abbrev pub IsOneByte : ℕ → List ℕ → Type 0
IsOneByte n bytes = (n < 2 ^ 7) × (bytes ≡ one_byte n)

abbrev pub IsTwoBytes : ℕ → List ℕ → Type 0
IsTwoBytes n bytes = (n < 2 ^ 14) × (bytes ≡ two_bytes n)

abbrev pub IsFourBytes : ℕ → List ℕ → Type 0
IsFourBytes n bytes = (n < 2 ^ 29) × (bytes ≡ four_bytes n)

-- the bytes encode the number, in one of the three forms (II.23.2)
abbrev pub IsPacked : ℕ → List ℕ → Type 0
IsPacked n bytes = IsOneByte n bytes ⊎ (IsTwoBytes n bytes ⊎ IsFourBytes n bytes)

-- the shortest encoding of a number below 2^29 (II.23.2)
abbrev pub short_unsigned : ℕ → List ℕ
short_unsigned n = if nat_lt n (2 ^ 7) then one_byte n else (if nat_lt n (2 ^ 14) then two_bytes n else four_bytes n)

-- w bits of two's complement hold the numbers from minus this value to this value minus one
abbrev pub half_range : ℕ → ℤ
half_range w = pos (2 ^ (w - 1))

-- the number fits in w bits of two's complement
pub record FitsBits (w : ℕ) (z : ℤ) : Type 0 where
  pub low : neg_ℤ (half_range w) ≤ℤ z
  pub high : z <ℤ half_range w

-- the same condition as a computed test
abbrev pub fits_bits : ℕ → ℤ → Bool
fits_bits w z = not (int_lt z (neg_ℤ (half_range w))) && int_lt z (half_range w)

-- the number in w bits of two's complement: its value modulo 2^w
abbrev pub twos_complement : ℕ → ℤ → ℕ
twos_complement w z = unsigned_abs (int_rem_euclid z (pos (2 ^ w)))

-- w bits, rotated left by one
abbrev pub rotated : ℕ → ℕ → ℕ
rotated w u = 2 * u % 2 ^ w + u / 2 ^ (w - 1)

-- the bits that encode a signed number in a form of w bits
abbrev pub signed_bits : ℕ → ℤ → ℕ
signed_bits w z = rotated w (twos_complement w z)

-- the bytes encode the signed number (II.23.2): its 7, 14 or 29 bits, rotated left by one, in the form with these bits
abbrev pub IsPackedSigned : ℤ → List ℕ → Type 0
IsPackedSigned z bytes =
    (FitsBits 7 z × IsOneByte (signed_bits 7 z) bytes)
    ⊎ ((FitsBits 14 z × IsTwoBytes (signed_bits 14 z) bytes) ⊎ (FitsBits 29 z × IsFourBytes (signed_bits 29 z) bytes))

-- the shortest encoding of a signed number of at most 29 bits
abbrev pub short_signed : ℤ → List ℕ
short_signed z =
    if fits_bits 7 z then one_byte (signed_bits 7 z)
    else (if fits_bits 14 z then two_bytes (signed_bits 14 z) else four_bytes (signed_bits 29 z))
