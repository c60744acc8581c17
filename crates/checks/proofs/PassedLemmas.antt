-- The numbers in slots.
use Rattle.checks.proofs.Prelude.{◌≡◌, ◌≢◌, ℕ, ◌+◌, ◌<◌, ◌≤◌, ◌%◌, ◌/◌, List, length, replicate, slice_index, slice_set, nat_eq, nat_lt, sym, subst, ◌∙◌, inl, inr, arith, cases_eq, cases_lt, nat_tests, get_or-replicate, get_or-set_other, get_or_past, length-replicate, Keeps, no_slots}
use Rattle.std.specs.Prelude.{◌&&◌, ◌||◌, IsTrue}
use Rattle.std.proofs.lemmas.Grind.{get_or-set_at}

-- each of the empty slots holds 0
pub none_in : (count slot : ℕ) → slice_index (replicate count 0) slot ≡ 0
none_in count slot = elim (cases_lt slot count) [
  | inl within ↦ get_or-replicate count slot 0 0 within
  | inr past ↦ get_or_past (replicate count 0) slot 0 (omega (arith, length-replicate {A = ℕ} count 0))
]

pub none_padded : (slot : ℕ) → slice_index (replicate 1024 0) slot ≡ 0
none_padded = none_in 1024

-- what holds of what is in each slot, and of one more
pub slots_more : (P : ℕ → ℕ → Type 0) (starts : List ℕ) (slot start : ℕ) → slot < length starts → P slot start
    → ((k : ℕ) → slice_index starts k ≢ 0 → P k (slice_index starts k))
    → (k : ℕ) → slice_index (slice_set starts slot start) k ≢ 0 → P k (slice_index (slice_set starts slot start) k)
slots_more P starts slot start within here before k some =
    elim (cases_eq k slot) [
      | inl same ↦ rw (get_or-set_at starts slot k start 0 same within) (subst (λ j. P j start) (sym same) here)
      | inr other ↦ rw (get_or-set_other starts slot k start 0 other) (before k (λ none. some (get_or-set_other starts slot k start 0 other ∙ none)))
    ]

-- slots that hold 0 keep no number
no_number : (number recent long : ℕ) → recent ≡ 0 → long ≡ 0 → ¬ IsTrue (nat_lt 0 number && (nat_eq recent number || nat_eq long number))
no_number number recent long none nothing keeps = grind (arith, nat_tests)

-- empty slots keep no number
pub none_kept : (bytes number : ℕ) → ¬ Keeps (no_slots bytes) number
none_kept bytes number =
    no_number number (slice_index (replicate 1024 0) (number % 1024)) (slice_index (replicate 1024 0) (number / (bytes / 1024 + 1) % 1024))
    (none_in 1024 (number % 1024)) (none_padded (number / (bytes / 1024 + 1) % 1024))

-- a property of the numbers of the rows before one, and of that row's number
pub one_more : (P : ℕ → Type 0) (value : ℕ → ℕ) (row number : ℕ) → ((r : ℕ) → 1 ≤ r → r < row → P (value r)) → number ≡ value row → P number
    → (r : ℕ) → 1 ≤ r → r < row + 1 → P (value r)
one_more P value row number before is here r low high = elim (cases_eq r row) [
  | inl same ↦ (let Q : ℕ → Type 0 = λ k. P (value k) in subst Q (sym same) (subst P is here))
  | inr other ↦ before r low (omega arith)
]
