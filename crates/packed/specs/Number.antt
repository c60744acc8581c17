-- Numbers in a fixed number of bytes, lowest byte first (ECMA-335 II.25).
use Rattle.std.specs.Prelude.{◌≡◌, ℕ, ◌+◌, ◌*◌, List, [], ◌∷◌, length}

-- the little-endian value of bytes: the sum of each byte times 256 to the power of its index
abbrev pub little_endian : List ℕ → ℕ
little_endian [] = 0
little_endian (byte ∷ bytes) = byte + 256 * little_endian bytes

-- these `count` bytes encode the number
pub record IsNumber (count : ℕ) (bytes : List ℕ) (number : ℕ) : Type 0 where
  pub long : length bytes ≡ count
  pub equal : number ≡ little_endian bytes
