-- Bytes that take the place of others, and the checksum of a PE file.
use Rattle.std.specs.Prelude.{ℕ, ◌+◌, ◌*◌, ◌-◌, ◌%◌, ◌==◌, if◌then◌else◌, List, [], ◌∷◌, ◌++◌, length, take, drop}
use Rattle.schema.specs.LaidOut.{number_bytes}

-- the whole with these bytes at an offset, instead of those that are there
abbrev pub with_bytes : ℕ → List ℕ → List ℕ → List ℕ
with_bytes offset bytes whole = take offset whole ++ (bytes ++ drop (offset + length bytes) whole)

-- a number for the four bytes at an offset, the lowest byte first
pub record Change : Type 0 where
  pub offset : ℕ
  pub value : ℕ

abbrev pub change : ℕ → ℕ → Change
change offset value = record { offset = offset; value = value }

-- the whole after these changes, one after another
abbrev pub changed : List Change → List ℕ → List ℕ
changed [] whole = whole
changed (one ∷ more) whole = changed more (with_bytes one.offset (number_bytes 4 one.value) whole)

-- the sum of numbers of two bytes, the lowest byte first; a last byte without another is such a number
abbrev pub sum_of_words : List ℕ → ℕ
sum_of_words [] = 0
sum_of_words (low ∷ []) = low
sum_of_words (low ∷ (high ∷ bytes)) = low + 256 * high + sum_of_words bytes

-- a sum in sixteen bits, if each carry out of them is added again at the bottom
abbrev pub with_carries : ℕ → ℕ
with_carries sum = if sum == 0 then 0 else ((sum - 1) % 0xFFFF + 1)

-- the checksum of a file whose File Checksum is 0 (II.25.2.3.2; Microsoft's PE format): the sum of its words, and its
-- length
abbrev pub checksum : List ℕ → ℕ
checksum file = with_carries (sum_of_words file) + length file
