-- Binary search, and binary digits.
use Rattle.rows.proofs.Prelude.{◌≡◌, ℕ, zero, suc, ◌+◌, ◌-◌, ◌*◌, ◌^◌, ◌<◌, ◌≤◌, eqb, List, length, arith, add-one, ap, ◌∙◌, pow-succ', cond_both, eqb-true, eqb-false, key_at, digits_after, binary_digits}
use Rattle.std.specs.List.Sorted.{IsNonDecreasing}

-- fewer than 2^spare rows are left, and `spare` more reads stay within `digits` reads
pub record Halves (left reads digits : ℕ) : Type 0 where
  pub spare : ℕ
  pub few : reads + spare ≤ digits
  pub below : left < 2 ^ spare

-- a number is below two to the power of its number of digits
next_below : (digits number : ℕ) → number < 2 ^ digits → suc number < 2 ^ digits_after digits (suc number)
next_below digits number below =
    let more : 2 ^ (digits + 1) ≡ 2 * 2 ^ digits = ap (λ (d : ℕ). 2 ^ d) (add-one digits) ∙ pow-succ' 2 digits in
    cond_both (eqb (suc number) (2 ^ digits)) (digits + 1) digits (λ d. suc number < 2 ^ d)
    (λ e. let same = eqb-true (suc number) (2 ^ digits) e in omega arith)
    (λ e. let other = eqb-false (suc number) (2 ^ digits) e in omega arith)

pub below_digits : (number : ℕ) → number < 2 ^ binary_digits number
unfolding binary_digits
below_digits zero = omega arith
below_digits (suc number) = next_below (binary_digits number) number (below_digits number)

-- the number of digits of a number is at most its value
pub digits_few : (number : ℕ) → binary_digits number ≤ number
unfolding binary_digits
digits_few zero = omega arith
digits_few (suc number) =
    let few = digits_few number in
    cond_both (eqb (suc number) (2 ^ binary_digits number)) (binary_digits number + 1) (binary_digits number) (λ d. d ≤ suc number) (λ e. omega arith) (λ e. omega arith)

-- the state before anything is read
pub halves_whole : (left reads count : ℕ) → left ≤ count → Halves left reads (reads + binary_digits count)
halves_whole left reads count within =
    let below = below_digits count in
    record { spare = binary_digits count; few = omega arith; below = omega arith }

-- one read leaves at most half of the rows
half_below : (left spare next : ℕ) → left < 2 ^ spare → 0 < left → next * 2 ≤ left → (fewer : ℕ) × (spare ≡ fewer + 1) × (next < 2 ^ fewer)
half_below left zero next below some half = absurd (omega arith)
half_below left (suc spare) next below some half =
    let twice : 2 ^ suc spare ≡ 2 * 2 ^ spare = pow-succ' 2 spare in
    (spare, omega arith, omega arith)

pub halves_more : (left reads digits next more : ℕ) → Halves left reads digits → 0 < left → next * 2 ≤ left → more ≡ reads + 1 → Halves next more digits
halves_more left reads digits next more halves some half e =
    let facts = half_below left halves.spare next halves.below some half in
    let few = halves.few in
    let fewer = facts.1 in
    record { spare = facts.0; few = omega arith; below = facts.2 }

-- the key of an earlier row is not greater
pub key_rises : (keys : List ℕ) (row later : ℕ) → IsNonDecreasing keys → row ≤ later → later ≤ length keys → 1 ≤ later → key_at keys row ≤ key_at keys later
key_rises keys row later sorted order within some = sorted (row - 1) (later - 1) 0 (omega arith) (omega arith)
