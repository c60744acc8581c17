-- The start of an owner's run can be read back from the numbers of the column.
use Rattle.root_writer.proofs.Prelude.{◌≡◌, ℕ, zero, suc, ◌+◌, ◌%◌, ◌^◌, ◌<◌, ◌≤◌, true, false, cond, eqb, ltb, leb, List, [], ◌∷◌, length, get_or, refl, sym, ap, ◌∙◌, ◌⊎◌, inl, inr, ⊎_elim, arith, cases_lt, cond_both, ltb-true, and_parts, and_from, nat_tests, mod-eq_of_lt, narrow_or_wide, start_from, rises}

-- the number of a start is the start; it may be 0 for the start after the last member
pub record AreNumbered (value start : ℕ → ℕ) (end row n : ℕ) : Type 0 where
  pub is : (r : ℕ) → row ≤ r → r < row + n → (value r ≡ start r) ⊎ ((value r ≡ 0) × (start r ≡ end))
  pub low : (r : ℕ) → row ≤ r → r < row + n → 1 ≤ start r
  pub high : (r : ℕ) → row ≤ r → r < row + n → start r ≤ end
  pub rises : (r : ℕ) → row ≤ r → r + 1 < row + n → start r ≤ start (r + 1)

step : (v s next : ℕ) → 1 ≤ s → (v ≡ s) ⊎ ((v ≡ 0) × (next ≡ s)) → cond (eqb v 0) next v ≡ s
step v s next low (inl e) = let some : eqb v 0 ≡ false = grind (arith, nat_tests) in ap (λ b. cond b next v) some ∙ e
step v s next low (inr null) = let zero_value = null.0 in let none : eqb v 0 ≡ true = grind (arith, nat_tests) in ap (λ b. cond b next v) none ∙ null.1

either : (v s end next : ℕ) → ((s ≡ end) → next ≡ s) → (v ≡ s) ⊎ ((v ≡ 0) × (s ≡ end)) → (v ≡ s) ⊎ ((v ≡ 0) × (next ≡ s))
either v s end next at_end (inl e) = inl e
either v s end next at_end (inr null) = inr (null.0, at_end null.1)

pub start_found : (value start : ℕ → ℕ) (end row n : ℕ) → AreNumbered value start end row (suc n) → start_from value end row (suc n) ≡ start row
start_found value start end row zero are =
    step (value row) (start row) end (are.low row (omega arith) (omega arith))
    (either (value row) (start row) end end (λ e. sym e) (are.is row (omega arith) (omega arith)))
start_found value start end row (suc n) are =
    let tail = start_found value start end (row + 1) n (record {
      is = λ r l h. are.is r (omega arith) (omega arith);
      low = λ r l h. are.low r (omega arith) (omega arith);
      high = λ r l h. are.high r (omega arith) (omega arith);
      rises = λ r l h. are.rises r (omega arith) (omega arith);
    }) in
    let up = are.rises row (omega arith) (omega arith) in
    let high = are.high (row + 1) (omega arith) (omega arith) in
    step (value row) (start row) (start_from value end (row + 1) (suc n)) (are.low row (omega arith) (omega arith))
    (either (value row) (start row) end (start_from value end (row + 1) (suc n)) (λ e. tail ∙ omega (arith, e, up, high))
    (are.is row (omega arith) (omega arith)))

pub rises_at : (numbers : List ℕ) (i : ℕ) → rises numbers ≡ true → i + 1 < length numbers → get_or numbers i 0 ≤ get_or numbers (i + 1) 0
rises_at [] i h below = absurd (omega arith)
rises_at (a ∷ []) i h below = absurd (omega arith)
rises_at (a ∷ b ∷ numbers) zero h below = let low = (and_parts (leb a b) (rises (b ∷ numbers)) h).0 in let le : a ≤ b = grind (arith, nat_tests) in le
rises_at (a ∷ b ∷ numbers) (suc i) h below =
    let up : suc i + 1 ≡ suc (i + 1) = omega arith in
    rw up (rises_at (b ∷ numbers) i (and_parts (leb a b) (rises (b ∷ numbers)) h).1 (omega arith))

pub rises_from : (numbers : List ℕ) → ((i : ℕ) → i + 1 < length numbers → get_or numbers i 0 ≤ get_or numbers (i + 1) 0) → rises numbers ≡ true
rises_from [] each = refl
rises_from (a ∷ []) each = refl
rises_from (a ∷ b ∷ numbers) each =
    let low : a ≤ b = each 0 (omega arith) in
    let reported : leb a b ≡ true = grind (arith, nat_tests) in
    and_from (leb a b) (rises (b ∷ numbers)) reported (rises_from (b ∷ numbers) (λ i below.
    let next : suc i + 1 ≡ suc (i + 1) = omega arith in
    let up = each (suc i) (omega arith) in
    rw next at up))

-- the low bytes in a column of the width for this count are the start, or 0 for the start after the last member
pub low_start : (count start : ℕ) → start ≤ count + 1 → count ≤ 0xFFFFFF
    → (start % 256 ^ narrow_or_wide (ltb count (2 ^ 16)) ≡ start) ⊎ ((start % 256 ^ narrow_or_wide (ltb count (2 ^ 16)) ≡ 0) × (start ≡ count + 1))
low_start count start low small =
    cond_both (ltb count (2 ^ 16)) 2 4 (λ width. (start % 256 ^ width ≡ start) ⊎ ((start % 256 ^ width ≡ 0) × (start ≡ count + 1)))
    (λ e. narrow (ltb-true count (2 ^ 16) e)) (λ e. inl (mod-eq_of_lt (below start)))
  where
    below : (n : ℕ) → start < 4294967296
    below n = omega arith

    narrow : count < 65536 → (start % 65536 ≡ start) ⊎ ((start % 65536 ≡ 0) × (start ≡ count + 1))
    narrow few = ⊎_elim
        (λ (l : start < 65536). inl (mod-eq_of_lt l))
        (λ (h : 65536 ≤ start). let is : start ≡ 65536 = omega arith in inr (ap (λ n. n % 65536) is, omega arith))
        (cases_lt start 65536)
