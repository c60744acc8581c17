-- The shortest form encodes the number, and no encoding is shorter.
use Rattle.packed.proofs.Prelude.{◌≡◌, ℕ, ◌-◌, ◌^◌, ◌<◌, ◌≤◌, Bool, true, false, cond, not, ltb, List, length, refl, arith, inl, inr, rules, ℤ, pos, negsuc, neg_ℤ, int_lt, ◌↔◌, and_parts, ltb-true, lt-ltb, ints, IsPacked, IsPackedSigned, FitsBits, fits_bits, half_range, short_unsigned, short_signed, signed_bits, one_byte, two_bytes, four_bytes}

pub unsigned_encodes : (n : ℕ) → n < 2 ^ 29 → IsPacked n (short_unsigned n)
unsigned_encodes n lt = by_test (ltb n (2 ^ 7)) (ltb n (2 ^ 14)) (λ e. ltb-true n (2 ^ 7) e) (λ e. ltb-true n (2 ^ 14) e)
  where
    by_test : (p q : Bool) → (p ≡ true → n < 2 ^ 7) → (q ≡ true → n < 2 ^ 14) → IsPacked n (cond p (one_byte n) (cond q (two_bytes n) (four_bytes n)))
    by_test true q f g = inl (f refl, refl)
    by_test false true f g = inr (inl (g refl, refl))
    by_test false false f g = inr (inr (lt, refl))

-- the length of the first of three forms that is allowed is the least
by_forms : (p q : Bool) (one two four : List ℕ) (count : ℕ) → length one ≡ 1 → length two ≡ 2 → length four ≡ 4 → 1 ≤ count → (p ≡ false → 2 ≤ count) → (p ≡ false → q ≡ false → 4 ≤ count) → length (cond p one (cond q two four)) ≤ count
by_forms true q one two four count e f g h k l = omega arith
by_forms false true one two four count e f g h k l = let more = k refl in omega arith
by_forms false false one two four count e f g h k l = let more = l refl refl in omega arith

pub unsigned_below : (n : ℕ) (bytes : List ℕ) → IsPacked n bytes → n < 2 ^ 29
unsigned_below n bytes (inl h) = let lt = h.0 in omega arith
unsigned_below n bytes (inr (inl h)) = let lt = h.0 in omega arith
unsigned_below n bytes (inr (inr h)) = h.0

pub unsigned_least : (n : ℕ) (bytes : List ℕ) → IsPacked n bytes → length (short_unsigned n) ≤ length bytes
unsigned_least n bytes (inl h) =
    rw (h.1, lt-ltb n (2 ^ 7) h.0) (omega arith)
unsigned_least n bytes (inr (inl h)) =
    rw (h.1) (by_forms (ltb n (2 ^ 7)) (ltb n (2 ^ 14)) (one_byte n) (two_bytes n) (four_bytes n) 2 refl refl refl (omega arith) (λ e. omega arith) (λ e f. absurd (let t = lt-ltb n (2 ^ 14) h.0 in cc)))
unsigned_least n bytes (inr (inr h)) =
    rw (h.1) (by_forms (ltb n (2 ^ 7)) (ltb n (2 ^ 14)) (one_byte n) (two_bytes n) (four_bytes n) 4 refl refl refl (omega arith) (λ e. omega arith) (λ e f. omega arith))

bits_seven : (z : ℤ) → FitsBits 7 z → signed_bits 7 z < 2 ^ 7
bits_seven (pos n) h = let k : n < 2 ^ 6 = (let a = h.high in omega (arith, ints)) in omega arith
bits_seven (negsuc n) h = let k : n < 2 ^ 6 = (let a = h.low in omega (arith, ints)) in omega arith

bits_fourteen : (z : ℤ) → FitsBits 14 z → signed_bits 14 z < 2 ^ 14
bits_fourteen (pos n) h = let k : n < 2 ^ 13 = (let a = h.high in omega (arith, ints)) in omega arith
bits_fourteen (negsuc n) h = let k : n < 2 ^ 13 = (let a = h.low in omega (arith, ints)) in omega arith

bits_twenty_nine : (z : ℤ) → FitsBits 29 z → signed_bits 29 z < 2 ^ 29
bits_twenty_nine (pos n) h = let k : n < 2 ^ 28 = (let a = h.high in omega (arith, ints)) in omega arith
bits_twenty_nine (negsuc n) h = let k : n < 2 ^ 28 = (let a = h.low in omega (arith, ints)) in omega arith

-- the computed test of the bounds is true if and only if they hold
fits_from : (w : ℕ) (z : ℤ) → fits_bits w z ≡ true → FitsBits w z
fits_from w z e =
    let both = and_parts (not (int_lt z (neg_ℤ (half_range w)))) (int_lt z (half_range w)) e in
    record { low = search (rules, both.0); high = search (rules, both.1) }

fits_test : (w : ℕ) (z : ℤ) → FitsBits w z → fits_bits w z ≡ true
fits_test w z h = let a = h.low in let b = h.high in search rules

pub fits_both : (w : ℕ) (z : ℤ) → (fits_bits w z ≡ true) ↔ FitsBits w z
fits_both w z = (fits_from w z, fits_test w z)

pub signed_encodes : (z : ℤ) → FitsBits 29 z → IsPackedSigned z (short_signed z)
signed_encodes z h = by_test (fits_bits 7 z) (fits_bits 14 z) (λ e. fits_from 7 z e) (λ e. fits_from 14 z e)
  where
    by_test : (p q : Bool) → (p ≡ true → FitsBits 7 z) → (q ≡ true → FitsBits 14 z) → IsPackedSigned z (cond p (one_byte (signed_bits 7 z)) (cond q (two_bytes (signed_bits 14 z)) (four_bytes (signed_bits 29 z))))
    by_test true q f g = let t = f refl in inl (t, (bits_seven z t, refl))
    by_test false true f g = let t = g refl in inr (inl (t, (bits_fourteen z t, refl)))
    by_test false false f g = inr (inr (h, (bits_twenty_nine z h, refl)))

fits_more : (w v : ℕ) (z : ℤ) → 2 ^ (w - 1) ≤ 2 ^ (v - 1) → FitsBits w z → FitsBits v z
fits_more w v (pos n) le h = let a = h.high in record { low = omega (arith, ints); high = omega (arith, ints) }
fits_more w v (negsuc n) le h = let a = h.low in record { low = omega (arith, ints); high = omega (arith, ints) }

pub signed_fits : (z : ℤ) (bytes : List ℕ) → IsPackedSigned z bytes → FitsBits 29 z
signed_fits z bytes (inl h) = fits_more 7 29 z (omega arith) h.0
signed_fits z bytes (inr (inl h)) = fits_more 14 29 z (omega arith) h.0
signed_fits z bytes (inr (inr h)) = h.0

pub signed_least : (z : ℤ) (bytes : List ℕ) → IsPackedSigned z bytes → length (short_signed z) ≤ length bytes
signed_least z bytes (inl h) = rw (h.1.1, fits_test 7 z h.0) (omega arith)
signed_least z bytes (inr (inl h)) =
    rw (h.1.1) (by_forms (fits_bits 7 z) (fits_bits 14 z) (one_byte (signed_bits 7 z)) (two_bytes (signed_bits 14 z)) (four_bytes (signed_bits 29 z)) 2 refl refl refl (omega arith) (λ e. omega arith) (λ e f. absurd (let t = fits_test 14 z h.0 in cc)))
signed_least z bytes (inr (inr h)) =
    rw (h.1.1) (by_forms (fits_bits 7 z) (fits_bits 14 z) (one_byte (signed_bits 7 z)) (two_bytes (signed_bits 14 z)) (four_bytes (signed_bits 29 z)) 4 refl refl refl (omega arith) (λ e. omega arith) (λ e f. omega arith))
