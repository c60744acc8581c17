-- The number in the bytes at an offset.
use Rattle.packed.proofs.Prelude.{◌≡◌, ℕ, zero, suc, ◌+◌, ◌≤◌, List, [], ◌∷◌, length, take, drop, refl, ◌∙◌, arith, length-drop, length-take-le, little_endian, IsNumber, part}
use Rattle.byteorder.specs.Endian.{little_from, little_number}
use Rattle.byteorder.specs.Numbers.{little_from-cons}

-- `byteorder` reads the number in the first bytes
little_from-number : (count : ℕ) (bytes : List ℕ) → count ≤ length bytes → little_from 0 count bytes ≡ little_endian (take count bytes)
little_from-number zero bytes h = refl
little_from-number (suc count) [] h = absurd (omega arith)
little_from-number (suc count) (byte ∷ bytes) h =
    let tail = little_from-number count bytes (omega arith) in
    let moved = little_from-cons 0 count byte bytes in
    rw (moved, tail) refl

-- what `byteorder` reads after dropping the bytes before an offset is the number at that offset
pub little_number_part : (whole : List ℕ) (offset count : ℕ) → offset + count ≤ length whole → little_number count (drop offset whole) ≡ little_endian (part whole offset count)
little_number_part whole offset count h = little_from-number count (drop offset whole) (omega (arith, length-drop offset whole))

-- so the `count` bytes at that offset encode the number
pub number_stands : (whole : List ℕ) (offset count number : ℕ) → offset + count ≤ length whole → number ≡ little_number count (drop offset whole)
    → IsNumber count (part whole offset count) number
number_stands whole offset count number h is = record {
  long = length-take-le count (drop offset whole) (omega (arith, length-drop offset whole));
  equal = is ∙ little_number_part whole offset count h;
}
