-- A bit of a byte, tested with a mask.
use Rattle.std.proofs.Common.{◌≡◌, ◌∙◌, ℕ, zero, suc, ◌/◌, ◌%◌, ◌*◌, ◌<◌, ◌≤◌, eqb, ltb, not, ap, sym, arith}
use Rattle.std.proofs.Math.Logic.{⊎_elim}
use Rattle.std.specs.Int.Bits.{bit_and}
use Rattle.std.proofs.lemmas.Bool.{eq-eqb, ne_eqb, lt-ltb, le-ltb, cases_lt}
use Rattle.std.proofs.lemmas.Nat.Bits.{and_pow}

-- a bit is set if and only if the masked value is not 0
set_by : (bit : ℕ) → bit < 2 → (worth : ℕ) → not (eqb (bit * suc worth) 0) ≡ eqb bit 1
set_by zero lt worth = ap not (eq-eqb (0 * suc worth) 0 (omega arith))
set_by (suc zero) lt worth = ap not (ne_eqb (1 * suc worth) 0 (λ e. omega arith))
set_by (suc (suc bit)) lt worth = absurd (omega arith)

pub generic_bit : (n : ℕ) → not (eqb (bit_and n 16) 0) ≡ eqb (n / 16 % 2) 1
generic_bit n = ap (λ k. not (eqb k 0)) (and_pow n 4) ∙ set_by (n / 16 % 2) (omega arith) 15

pub this_bit : (n : ℕ) → not (eqb (bit_and n 32) 0) ≡ eqb (n / 32 % 2) 1
this_bit n = ap (λ k. not (eqb k 0)) (and_pow n 5) ∙ set_by (n / 32 % 2) (omega arith) 31

pub explicit_bit : (n : ℕ) → not (eqb (bit_and n 64) 0) ≡ eqb (n / 64 % 2) 1
explicit_bit n = ap (λ k. not (eqb k 0)) (and_pow n 6) ∙ set_by (n / 64 % 2) (omega arith) 63

-- the highest bit of a byte is clear if and only if the byte is below 0x80
pub reserved_bit : (n : ℕ) → n < 256 → eqb (bit_and n 128) 0 ≡ ltb n 128
reserved_bit n lt = ap (λ k. eqb k 0) (and_pow n 7) ∙ ⊎_elim below above (cases_lt n 128)
  where
    below : n < 128 → eqb (n / 128 % 2 * 128) 0 ≡ ltb n 128
    below less = eq-eqb (n / 128 % 2 * 128) 0 (omega arith) ∙ sym (lt-ltb n 128 less)

    above : 128 ≤ n → eqb (n / 128 % 2 * 128) 0 ≡ ltb n 128
    above more = ne_eqb (n / 128 % 2 * 128) 0 (λ e. omega arith) ∙ sym (le-ltb n 128 more)

pub ruleset masks = (generic_bit, this_bit, explicit_bit, reserved_bit)
