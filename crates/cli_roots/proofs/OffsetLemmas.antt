-- The first offset at which two lists differ.
use Rattle.cli_roots.proofs.Prelude.{◌≡◌, ◌≢◌, ◌+◌, ◌<◌, ℕ, inl, inr, List, [], ◌∷◌, arith, drop, get_or, length, min, refl, drop_all, drop_more, same_bytes, nat_tests}
use Rattle.std.proofs.lemmas.Bool.{cases_lt}

pub next_same : (left right : List ℕ) (offset : ℕ) → offset < length left → offset < length right → get_or left offset 0 ≡ get_or right offset 0
    → offset + same_bytes (drop offset left) (drop offset right) ≡ offset + 1 + same_bytes (drop (offset + 1) left) (drop (offset + 1) right)
next_same left right offset in_left in_right same =
    rw (drop_more left offset 0 in_left, drop_more right offset 0 in_right) (grind (arith, nat_tests))

pub next_differs : (left right : List ℕ) (offset : ℕ) → offset < length left → offset < length right → get_or left offset 0 ≢ get_or right offset 0
    → offset + same_bytes (drop offset left) (drop offset right) ≡ offset
next_differs left right offset in_left in_right differ =
    rw (drop_more left offset 0 in_left, drop_more right offset 0 in_right) (grind (arith, nat_tests))

none_right : (left : List ℕ) → same_bytes left [] ≡ 0
none_right [] = refl
none_right (byte ∷ left) = refl

-- the offset after the last byte that both lists have
pub at_end : (left right : List ℕ) (offset : ℕ) → offset ≡ min (length left) (length right) → offset + same_bytes (drop offset left) (drop offset right) ≡ offset
at_end left right offset least =
    elim (cases_lt (length left) (length right)) [
      | inl shorter ↦ rw (drop_all offset left (omega arith)) (omega arith)
      | inr longer ↦ rw (drop_all offset right (omega arith), none_right (drop offset left)) (omega arith)
    ]
