-- Decoding a packed signed number inverts encoding it.
use Rattle.packed.proofs.Prelude.{◌≡◌, ℕ, ◌-◌, ◌/◌, ◌%◌, ◌^◌, ◌<◌, ◌≤◌, Bool, true, false, cond, eqb, Option, Some, None, List, ◌++◌, length, take, refl, sym, ap, ◌∙◌, subst, arith, inl, inr, ℤ, pos, negsuc, ◌-ℤ◌, option_map, IfSome, IsSomeAnd, ints, length-take-le, eqb-true, eqb-false, eq-eqb, unsigned_at, signed_at, bits_of, unrotated, IsPacked, IsOneByte, IsTwoBytes, IsFourBytes, IsPackedSigned, FitsBits, signed_bits}
use Rattle.packed.proofs.PackedLemmas.{AreBytes, unsigned_found, unsigned_again}

-- the bits n encode the number z that they decode to
record EncodesBack (w n : ℕ) (z : ℤ) : Type 0 where
  fits : FitsBits w z
  same : n ≡ signed_bits w z

sub_below : (low half : ℕ) → low < half → pos low -ℤ pos half ≡ negsuc (half - 1 - low)
sub_below low half lt = omega (arith, ints)

back_by_test : (w n : ℕ) (p : Bool) → (p ≡ true → EncodesBack w n (pos (n / 2))) → (p ≡ false → EncodesBack w n (pos (n / 2) -ℤ pos (2 ^ (w - 1)))) → EncodesBack w n (cond p (pos (n / 2)) (pos (n / 2) -ℤ pos (2 ^ (w - 1))))
back_by_test w n true h k = h refl
back_by_test w n false h k = k refl

not_even : (n : ℕ) → eqb (n % 2) 0 ≡ false → n % 2 ≡ 1
not_even n e = let odd = eqb-false (n % 2) 0 e in omega arith

back_one : (n : ℕ) → n < 2 ^ 7 → EncodesBack 7 n (unrotated 7 n)
back_one n lt =
    back_by_test 7 n (eqb (n % 2) 0)
    (λ e. let even = eqb-true (n % 2) 0 e in record { fits = record { low = omega (arith, ints); high = omega (arith, ints) }; same = omega arith })
    (λ e. let odd = not_even n e in subst (λ (z : ℤ). EncodesBack 7 n z) (sym (sub_below (n / 2) (2 ^ 6) (omega arith)))
    (record { fits = record { low = omega (arith, ints); high = omega (arith, ints) }; same = omega arith }))

back_two : (n : ℕ) → n < 2 ^ 14 → EncodesBack 14 n (unrotated 14 n)
back_two n lt =
    back_by_test 14 n (eqb (n % 2) 0)
    (λ e. let even = eqb-true (n % 2) 0 e in record { fits = record { low = omega (arith, ints); high = omega (arith, ints) }; same = omega arith })
    (λ e. let odd = not_even n e in subst (λ (z : ℤ). EncodesBack 14 n z) (sym (sub_below (n / 2) (2 ^ 13) (omega arith)))
    (record { fits = record { low = omega (arith, ints); high = omega (arith, ints) }; same = omega arith }))

back_four : (n : ℕ) → n < 2 ^ 29 → EncodesBack 29 n (unrotated 29 n)
back_four n lt =
    back_by_test 29 n (eqb (n % 2) 0)
    (λ e. let even = eqb-true (n % 2) 0 e in record { fits = record { low = omega (arith, ints); high = omega (arith, ints) }; same = omega arith })
    (λ e. let odd = not_even n e in subst (λ (z : ℤ). EncodesBack 29 n z) (sym (sub_below (n / 2) (2 ^ 28) (omega arith)))
    (record { fits = record { low = omega (arith, ints); high = omega (arith, ints) }; same = omega arith }))

one_signed : (n : ℕ) (s : List ℕ) → IsOneByte n s → IsPackedSigned (unrotated 7 n) s
one_signed n s h = let t = back_one n h.0 in inl (t.fits, subst (λ (m : ℕ). IsOneByte m s) t.same h)

two_signed : (n : ℕ) (s : List ℕ) → IsTwoBytes n s → IsPackedSigned (unrotated 14 n) s
two_signed n s h = let t = back_two n h.0 in inr (inl (t.fits, subst (λ (m : ℕ). IsTwoBytes m s) t.same h))

four_signed : (n : ℕ) (s : List ℕ) → IsFourBytes n s → IsPackedSigned (unrotated 29 n) s
four_signed n s h = let t = back_four n h.0 in inr (inr (t.fits, subst (λ (m : ℕ). IsFourBytes m s) t.same h))

-- bytes that encode an unsigned number encode the signed number of its bits
signed_from : (n count : ℕ) (s : List ℕ) → length s ≡ count → IsPacked n s → IsPackedSigned (unrotated (bits_of count) n) s
signed_from n count s long (inl h) = rw (sym long ∙ ap length h.1) (one_signed n s h)
signed_from n count s long (inr (inl h)) = rw (sym long ∙ ap length h.1) (two_signed n s h)
signed_from n count s long (inr (inr h)) = rw (sym long ∙ ap length h.1) (four_signed n s h)

abbrev IsReadSigned : List ℕ → ℤ × ℕ → Type 0
IsReadSigned bytes read = (read.1 ≤ length bytes) × IsPackedSigned read.0 (take read.1 bytes)

map_found : (bytes : List ℕ) (o : Option (ℕ × ℕ)) → IfSome o (λ read. (read.1 ≤ length bytes) × IsPacked read.0 (take read.1 bytes))
    → IfSome (option_map (λ (found : ℕ × ℕ). (unrotated (bits_of found.1) found.0, found.1)) o) (IsReadSigned bytes)
map_found bytes None h = tt
map_found bytes (Some read) h = (h.0, signed_from read.0 read.1 (take read.1 bytes) (length-take-le read.1 bytes h.0) h.1)

pub signed_found : (bytes : List ℕ) → AreBytes bytes → IfSome (signed_at bytes) (IsReadSigned bytes)
unfolding signed_at
signed_found bytes small = map_found bytes (unsigned_at bytes) (unsigned_found bytes small)

-- ---- the number that the encoded bits decode to

even_of : (w n : ℕ) → n % 2 ≡ 0 → unrotated w n ≡ pos (n / 2)
even_of w n e = rw (eq-eqb (n % 2) 0 e) refl

odd_of : (w n : ℕ) → n % 2 ≡ 1 → n / 2 < 2 ^ (w - 1) → unrotated w n ≡ negsuc (2 ^ (w - 1) - 1 - n / 2)
odd_of w n e lt = rw e (sub_below (n / 2) (2 ^ (w - 1)) lt)

again_one : (z : ℤ) → FitsBits 7 z → unrotated 7 (signed_bits 7 z) ≡ z
again_one (pos n) h = let k : n < 2 ^ 6 = (let a = h.high in omega (arith, ints)) in even_of 7 (signed_bits 7 (pos n)) (omega arith) ∙ ap pos (omega arith)
again_one (negsuc n) h = let k : n < 2 ^ 6 = (let a = h.low in omega (arith, ints)) in odd_of 7 (signed_bits 7 (negsuc n)) (omega arith) (omega arith) ∙ ap negsuc (omega arith)

again_two : (z : ℤ) → FitsBits 14 z → unrotated 14 (signed_bits 14 z) ≡ z
again_two (pos n) h = let k : n < 2 ^ 13 = (let a = h.high in omega (arith, ints)) in even_of 14 (signed_bits 14 (pos n)) (omega arith) ∙ ap pos (omega arith)
again_two (negsuc n) h = let k : n < 2 ^ 13 = (let a = h.low in omega (arith, ints)) in odd_of 14 (signed_bits 14 (negsuc n)) (omega arith) (omega arith) ∙ ap negsuc (omega arith)

again_four : (z : ℤ) → FitsBits 29 z → unrotated 29 (signed_bits 29 z) ≡ z
again_four (pos n) h = let k : n < 2 ^ 28 = (let a = h.high in omega (arith, ints)) in even_of 29 (signed_bits 29 (pos n)) (omega arith) ∙ ap pos (omega arith)
again_four (negsuc n) h = let k : n < 2 ^ 28 = (let a = h.low in omega (arith, ints)) in odd_of 29 (signed_bits 29 (negsuc n)) (omega arith) (omega arith) ∙ ap negsuc (omega arith)

read_as : (w n count : ℕ) (z : ℤ) (bytes : List ℕ) → unsigned_at bytes ≡ Some (n, count) → bits_of count ≡ w → unrotated w n ≡ z → signed_at bytes ≡ Some (z, count)
unfolding signed_at
read_as w n count z bytes e k h = rw (e, k, h) refl

pub signed_again : (z : ℤ) (prefix tail : List ℕ) → IsPackedSigned z prefix → signed_at (prefix ++ tail) ≡ Some (z, length prefix)
signed_again z prefix tail (inl h) =
    let n = signed_bits 7 z in
    read_as 7 n (length prefix) z (prefix ++ tail) (unsigned_again n prefix tail (inl h.1)) (ap (λ (t : List ℕ). bits_of (length t)) h.1.1) (again_one z h.0)
signed_again z prefix tail (inr (inl h)) =
    let n = signed_bits 14 z in
    read_as 14 n (length prefix) z (prefix ++ tail) (unsigned_again n prefix tail (inr (inl h.1))) (ap (λ (t : List ℕ). bits_of (length t)) h.1.1) (again_two z h.0)
signed_again z prefix tail (inr (inr h)) =
    let n = signed_bits 29 z in
    read_as 29 n (length prefix) z (prefix ++ tail) (unsigned_again n prefix tail (inr (inr h.1))) (ap (λ (t : List ℕ). bits_of (length t)) h.1.1) (again_four z h.0)

pub signed_only : (bytes prefix tail : List ℕ) (z : ℤ) (r : Option (ℤ × ℕ)) → r ≡ signed_at bytes → bytes ≡ prefix ++ tail → IsPackedSigned z prefix
    → IsSomeAnd r (λ read. (read.0 ≡ z) × (read.1 ≡ length prefix))
signed_only bytes prefix tail z r is split packed =
    let read : r ≡ Some (z, length prefix) = is ∙ ap signed_at split ∙ signed_again z prefix tail packed in
    let P : Option (ℤ × ℕ) → Type 0 = λ o. IsSomeAnd o (λ x. (x.0 ≡ z) × (x.1 ≡ length prefix)) in
    subst P (sym read) (refl, refl)
