-- The starts that are kept, one more at a time.
use Rattle.std.proofs.Common.{◌≡◌, ◌≢◌, ℕ, ◌+◌, ◌-◌, ◌*◌, ◌≤◌, ◌<◌, List, length, slice_index, slice_set, sym, ◌∙◌, ap, inl, inr, arith}
use Rattle.std.proofs.Math.Nat.{mul-le-mul_left, le_of_mul-le-mul_left}
use Rattle.reading.proofs.Prelude.{cases_eq, cases_lt, mul-le, IsKnown}
use Rattle.std.proofs.lemmas.List.{get_or-set_other}
use Rattle.std.proofs.lemmas.Grind.{get_or-set_at}
use Rattle.reading.specs.declared.known_starts.KnownStarts.{KnownStarts}

-- a multiple below a number of steps has an index below that number
pub slot_low : (step slot row many : ℕ) → row ≡ step * (slot + 1) → row < many * step → slot < many
slot_low step slot row many is below = elim (cases_lt slot many) [
  | inl low ↦ low
  | inr high ↦ absurd (let h : step * many ≤ step * (slot + 1) = mul-le-mul_left step (omega arith) in omega arith)
]

-- after one more start is kept, those from its owner on are known
pub kept_more : (starts : List ℕ) (start : ℕ → ℕ) (step slot row first last : ℕ) → 0 < step → slot < length starts
    → row ≡ step * (slot + 1) → first ≡ start row
    → ((k : ℕ) → row + 1 ≤ step * (k + 1) → step * (k + 1) ≤ last → slice_index starts k ≡ start (step * (k + 1)))
    → (k : ℕ) → row ≤ step * (k + 1) → step * (k + 1) ≤ last → slice_index (slice_set starts slot first) k ≡ start (step * (k + 1))
kept_more starts start step slot row first last moves within is is_first before k low high = elim (cases_eq k slot) [
  | inl same ↦
      let here : step * (k + 1) ≡ row = ap (λ p. step * (p + 1)) same ∙ sym is in
      get_or-set_at starts slot k first 0 same within ∙ is_first ∙ sym (ap start here)
  | inr other ↦
      let apart : step * (k + 1) ≢ row = λ same.
      let up : k + 1 ≤ slot + 1 = le_of_mul-le-mul_left {k = step} (omega arith) moves in
      let down : slot + 1 ≤ k + 1 = le_of_mul-le-mul_left {k = step} (omega arith) moves in
      other (omega arith) in
      get_or-set_other starts slot k first 0 other ∙ before k (omega arith) high
]

-- of the owners after the last whose start is kept, and of those between two whose starts are kept, no start is kept
pub known_past : (known : KnownStarts) (start : ℕ → ℕ) (kept last : ℕ) → last < (kept + 1) * known.step → IsKnown known start (kept * known.step + 1) last
known_past known start kept last past = record {
  each = λ k low high. elim (cases_lt k kept) [
    | inl less ↦ absurd (let fewer : (k + 1) * known.step ≤ kept * known.step = mul-le (k + 1) known.step kept known.step (omega arith) (omega arith) in omega arith)
    | inr more ↦ absurd (let later : (kept + 1) * known.step ≤ (k + 1) * known.step = mul-le (kept + 1) known.step (k + 1) known.step (omega arith) (omega arith) in omega arith)
  ];
}

pub known_between : (known : KnownStarts) (start : ℕ → ℕ) (kept last : ℕ) → 1 ≤ kept → IsKnown known start (kept * known.step) last → IsKnown known start ((kept - 1) * known.step + 1) last
known_between known start kept last some is = record {
  each = λ k low high. elim (cases_lt (k + 1) kept) [
    | inl less ↦ absurd (let fewer : (k + 1) * known.step ≤ (kept - 1) * known.step = mul-le (k + 1) known.step (kept - 1) known.step (omega arith) (omega arith) in omega arith)
    | inr more ↦ (let later : kept * known.step ≤ (k + 1) * known.step = mul-le kept known.step (k + 1) known.step (omega arith) (omega arith) in is.each k (omega arith) high)
  ];
}
