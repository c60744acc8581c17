-- A text whose escapes are read back, byte by byte.
use Rattle.cli_sending.proofs.Prelude.{◌==◌, false, true, ◌≡◌, ℕ, zero, suc, ◌-◌, ◌*◌, ◌<◌, ◌≤◌, Bool, if◌then◌else◌, Option, Some, None, Result, Ok, Err, MatchResult, IsUtf8, Bor, List, [], ◌∷◌, ◌++◌, drop, get_or, length, take, take-append-drop, ap, append_assoc, append-nil, arith, refl, sym, ◌∙◌, slice_get, slice_index, chars, is_utf8, false_from_ne_true, IsUtf8-from_is_utf8, is_utf8-from_IsUtf8, drop_all, escaped_at, as_is, first_char, found_at, readable, readable_after}
use Rattle.std.proofs.Common.{eqb-true}
use Rattle.cli_sending.specs.declared.letters.ReadBack.{ReadBack}
use Rattle.cli_sending.specs.declared.letters.ReadBack.TheVariants.{Bytes, Letters}

-- an escape has four bytes
pub escape_is_there : (text : List ℕ) (byte : ℕ) → Some byte ≡ escaped_at text → 4 ≤ length text
unfolding escaped_at
escape_is_there [] byte is = absurd cc
escape_is_there (first ∷ []) byte is = absurd cc
escape_is_there (first ∷ (second ∷ [])) byte is = absurd cc
escape_is_there (first ∷ (second ∷ (high ∷ []))) byte is = absurd cc
escape_is_there (first ∷ (second ∷ (high ∷ (low ∷ tail)))) byte is = omega arith

-- bytes that are UTF-8, and those that are not
pub utf8_is : (bytes : List ℕ) → IsUtf8 bytes → is_utf8 bytes ≡ true
utf8_is bytes utf8 = is_utf8-from_IsUtf8 bytes utf8

pub utf8_is_not : (bytes : List ℕ) → ¬ IsUtf8 bytes → is_utf8 bytes ≡ false
utf8_is_not bytes bad = false_from_ne_true (is_utf8 bytes) (λ yes. bad (IsUtf8-from_is_utf8 bytes yes))

-- a byte that is no backslash begins no escape
not_escaped : (byte : ℕ) (tail : List ℕ) → (byte == 92) ≡ false → None ≡ escaped_at (byte ∷ tail)
unfolding escaped_at
not_escaped byte [] other = refl
not_escaped byte (second ∷ []) other = refl
not_escaped byte (second ∷ (high ∷ [])) other = refl
not_escaped byte (second ∷ (high ∷ (low ∷ tail))) other = rw other refl

module _ (what : ReadBack) where
  -- a byte is passed over
  pub passed : (skipped : ℕ) (text : List ℕ) → 0 < skipped → readable_after what (skipped - 1) (drop 1 text) ≡ readable_after what skipped text
  unfolding readable_after
  passed zero text some = absurd (omega arith)
  passed (suc n) [] some = refl
  passed (suc n) (byte ∷ tail) some = let less : suc n - 1 ≡ n = omega arith in ap (λ m. readable_after what m tail) less

  -- bytes are read back, or else one stays
  pub found_shown : (before text found : List ℕ) (skipped : ℕ) → skipped ≡ 0 → 0 < length text → found ≡ found_at what text → (length found == 0) ≡ false
      → (before ++ found) ++ readable_after what (4 * length found - 1) (drop 1 text) ≡ before ++ readable_after what skipped text
  unfolding readable_after
  found_shown before [] found skipped none some is more = absurd (omega arith)
  found_shown before (byte ∷ tail) [] skipped none some is more = absurd cc
  found_shown before (byte ∷ tail) (first ∷ later) skipped none some is more =
      rw (none, ← is) (append_assoc before (first ∷ later) (readable_after what (4 * length (first ∷ later) - 1) tail))

  pub byte_shown : (before text found : List ℕ) (skipped first : ℕ) → skipped ≡ 0 → 0 < length text → found ≡ found_at what text → (length found == 0) ≡ true → first ≡ get_or text 0 0
      → (before ++ first ∷ []) ++ readable_after what 0 (drop 1 text) ≡ before ++ readable_after what skipped text
  unfolding readable_after
  byte_shown before [] found skipped first none some is empty at = absurd (omega arith)
  byte_shown before (byte ∷ tail) (found ∷ later) skipped first none some is empty at = let long = eqb-true (length (found ∷ later)) 0 empty in absurd (omega arith)
  byte_shown before (byte ∷ tail) [] skipped first none some is empty at = rw (none, ← is, at) (append_assoc before (byte ∷ []) (readable_after what 0 tail))

  -- at the end nothing is left
  pub all_shown : (before first text : List ℕ) (skipped i : ℕ) → length text ≤ i → before ++ readable_after what skipped (drop i text) ≡ first ++ readable_after what 0 text
      → before ≡ first ++ readable_after what 0 text
  unfolding readable_after
  all_shown before first text skipped i end is = sym (append-nil before) ∙ rw (drop_all i text end) at is

  none_found : (byte : ℕ) (tail : List ℕ) → (byte == 92) ≡ false → [] ≡ found_at what (byte ∷ tail)
  unfolding found_at
  none_found byte tail other = rw (← not_escaped byte tail other) refl

  -- a text without backslashes stays as it is
  pub plain_shown : (text : List ℕ) → ((k : ℕ) → 0 ≤ k → k < length text → ¬ ((slice_index text k == 92) ≡ true)) → readable_after what 0 text ≡ text
  unfolding readable_after
  plain_shown [] none = refl
  plain_shown (byte ∷ tail) none =
      let first : (byte == 92) ≡ false = false_from_ne_true (byte == 92) (none 0 (omega arith) (omega arith)) in
      let later = plain_shown tail (λ k low lt. none (suc k) (omega arith) (omega (arith, lt))) in
      rw (← none_found byte tail first) (ap (λ t. byte ∷ t) later)

-- so does a line if it has none from a byte on
pub all_plain : (line tail : List ℕ) (start : ℕ) → tail ≡ drop start line → ((k : ℕ) → 0 ≤ k → k < length tail → ¬ ((slice_index tail k == 92) ≡ true))
    → line ≡ take start line ++ readable (drop start line)
all_plain line tail start is none =
    sym (take-append-drop start line) ∙ ap (λ t. take start line ++ t) (sym is ∙ sym (plain_shown Letters tail none) ∙ ap (λ t. readable t) is)

-- and a declaration
either : (b : Bool) (text : List ℕ) → text ≡ (if b then text else text)
either true text = refl
either false text = refl

pub plain_as_is : (text : List ℕ) → ((k : ℕ) → 0 ≤ k → k < length text → ¬ ((slice_index text k == 92) ≡ true)) → text ≡ as_is text
plain_as_is text none = either (is_utf8 text) text ∙ ap (λ (t : List ℕ). if is_utf8 t then t else text) (sym (plain_shown Bytes text none))
