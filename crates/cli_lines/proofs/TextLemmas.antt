-- What is appended to a line, one byte after another.
use Rattle.cli_lines.proofs.Prelude.{◌≡◌, ◌∙◌, ℕ, zero, suc, ◌+◌, ◌-◌, ◌*◌, ◌/◌, ◌%◌, ◌<◌, Bool, true, false, ◌&&◌, T, eqb, eqb→eq, eq-zero-or-pos, IsTrue, List, [], ◌∷◌, ◌++◌, length, get_or, take, drop, refl, ap, sym, inl, inr, append_assoc, arith, if◌then◌else◌, flat_map, digit_glyph, hex_byte, flat_map_more, take_more, hexadecimal, upper_hexadecimal}
use lib.Ieee.Fits.{and_l, and_r}
use Rattle.std.specs.Prelude.{Result, Ok, Err, OnOk, is_ok}
use Rattle.std.proofs.Math.Seq.{drop-append_seam, take-append_seam}
use Rattle.std.proofs.lemmas.Result.{on_ok_weaker}
use Rattle.cli_sending.specs.Letters.{readable}
use Rattle.cli_lines.specs.declared.texts.TheConstants.{PAIRS}

-- one more item of a list that is printed item by item
pub items_more : {X : Type 0} (f : X → List ℕ) (line : List ℕ) (xs : List X) (i : ℕ) (d : X) → i < length xs
    → (line ++ flat_map f (take i xs)) ++ f (get_or xs i d) ≡ line ++ flat_map f (take (i + 1) xs)
items_more f line xs i d lt = flat_map_more f line (take i xs) (get_or xs i d) ∙ ap (λ ys. line ++ flat_map f ys) (sym (take_more xs i d lt))

-- the pairs of digits in order
abbrev are_pairs : ℕ → Bool
are_pairs zero = true
are_pairs (suc n) = (eqb (get_or PAIRS (n * 2) 0) (digit_glyph false (n / 16)) && eqb (get_or PAIRS (n * 2 + 1) 0) (digit_glyph false (n % 16))) && are_pairs n

pair_below : (count n : ℕ) → T (are_pairs count) → n < count
    → (get_or PAIRS (n * 2) 0 ≡ digit_glyph false (n / 16)) × (get_or PAIRS (n * 2 + 1) 0 ≡ digit_glyph false (n % 16))
pair_below zero n are few = absurd (omega arith)
pair_below (suc count) n are few =
    elim (eq-zero-or-pos (count - n)) [
      | inl none ↦ let last : n ≡ count = omega arith in let both = and_l _ (are_pairs count) are in
          rw last (eqb→eq _ _ (and_l _ _ both), eqb→eq _ _ (and_r _ _ both))
      | inr more ↦ pair_below count n (and_r _ (are_pairs count) are) (omega arith)
    ]

pub pair_at : (n : ℕ) → n < 256 → get_or PAIRS (n * 2) 0 ∷ get_or PAIRS (n * 2 + 1) 0 ∷ [] ≡ hexadecimal 2 n
pair_at n small = let digits = pair_below 256 n tt small in (λ i. digits.0 i ∷ digits.1 i ∷ []) ∙ sym (hex_byte false n small)

-- a list that was appended, if it is that of another name
pub appended : {T E : Type 0} (result : Result T E) (before after bytes text : List ℕ) → after ≡ (if is_ok result then before ++ bytes else before) → bytes ≡ text
    → OnOk result (after ≡ before ++ text)
appended (Ok done) before after bytes text is same = is ∙ ap (λ ys. before ++ ys) same
appended (Err error) before after bytes text is same = tt

-- the parts of a line, one after another
pub three_joined : (line a b c : List ℕ) → ((line ++ a) ++ b) ++ c ≡ line ++ (a ++ b ++ c)
three_joined line a b c = simp append_assoc

-- what was appended to a line, with its letters as they are
pub letters_shown : {T E : Type 0} (result : Result T E) (line text now new : List ℕ) (start : ℕ) → now ≡ line ++ text → start ≡ length line
    → OnOk result (new ≡ take start now ++ readable (drop start now)) → OnOk result (new ≡ line ++ readable text)
letters_shown result line text now new start is at shown =
    on_ok_weaker result (λ same. same ∙ rw (is, at, take-append_seam line text, drop-append_seam line text) refl) shown
