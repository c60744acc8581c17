-- Texts in a heap that is UTF-8 as a whole, and what follows from the offset of its last NUL.
use Rattle.heap_entries.proofs.Prelude.{◌≡◌, ◌≢◌, ℕ, suc, zero, ◌+◌, ◌-◌, ◌<◌, ◌≤◌, List, [], ◌∷◌, ◌++◌, length, take, drop, slice_index, IsUtf8, Option, Some, None, is_some, Result, Ok, Err, MatchResult, sym, ap, subst, ◌∙◌, arith, length-drop, ⊎_elim, inl, inr, is_utf8, IsCharBoundary, IfSome, IsCharBoundary-start, IsCharBoundary-from_rest, IsCharBoundary-before_ascii, IsUtf8-between, IsUtf8-from_is_utf8, is_utf8-from_IsUtf8, get_or-drop, take-append-drop, length-take-le, All-cons, cases_lt, eqb-true, false_from_ne_true, IsLastByte, is_byte, heap_of, IsWhole, IsKnown, IsEnded, IsText, HasNoNul}
use Rattle.std.specs.Borrow.{Bor}
use Rattle.std.specs.Result.{result_ok}
use Rattle.heap_entries.specs.declared.strings.Strings.TheInside.{Inside}
use Rattle.heap_entries.proofs.TextLemmas.{ended_length, nul_behind, tail_is, bytes_are}

-- what is known of the whole heap as a text
pub whole_is : (strings : Inside) (text : Bor (List ℕ)) → strings.whole ≡ Some text → IsKnown strings → (text.now ≡ heap_of strings) × IsUtf8 (heap_of strings)
whole_is strings text is known = subst (IsWhole (heap_of strings)) is known.whole

pub last_is : (strings : Inside) (heap : List ℕ) (last : ℕ) → heap_of strings ≡ heap → strings.last_nul ≡ Some last → IsKnown strings → IsLastByte (is_byte 0) heap (Some last)
last_is strings heap last here is known =
    let P : Option ℕ → Type 0 = λ found. IfSome found (λ l. IsLastByte (is_byte 0) (heap_of strings) (Some l)) in
    subst (λ l. IsLastByte (is_byte 0) l (Some last)) here (subst P is known.last)

-- the result of reading the heap once
pub whole_found : {E : Type 0} (heap : List ℕ) (found : Result (Bor (List ℕ)) E)
    → MatchResult found (λ text. (text.now ≡ heap) × IsUtf8 heap) (λ _. ¬ IsUtf8 heap) → IsWhole heap (result_ok found)
whole_found heap (Ok text) is = is
whole_found heap (Err fault) is = is

pub last_found : (heap : List ℕ) (last : Option ℕ) → IsLastByte (is_byte 0) heap last → IfSome last (λ l. IsLastByte (is_byte 0) heap (Some l))
last_found heap None is = tt
last_found heap (Some last) is = is

-- whether the heap is UTF-8, by `whole`
pub utf8_is : (heap : List ℕ) (whole : Option (Bor (List ℕ))) → IsWhole heap whole → is_some whole ≡ is_utf8 heap
utf8_is heap None is = sym (false_from_ne_true (is_utf8 heap) (λ e. is (IsUtf8-from_is_utf8 heap e)))
utf8_is heap (Some text) is = sym (is_utf8-from_IsUtf8 heap is.1)

-- a character begins at the start of a text that a NUL follows
prefix_boundary : (text after : List ℕ) → IsUtf8 text → IsCharBoundary (text ++ 0 ∷ after) 0
prefix_boundary [] after utf8 = (omega arith, λ _ high. omega (arith, high))
prefix_boundary (byte ∷ bytes) after utf8 = (omega arith, λ _ high. (IsCharBoundary-start (byte ∷ bytes) utf8).1 (omega arith) high)

module _ (heap : List ℕ) (index : ℕ) (bytes : List ℕ) (stands : IsEnded heap index bytes) where
  -- a character begins at the index of a text
  pub text_boundary : IsUtf8 bytes → IsCharBoundary heap index
  text_boundary utf8 =
      let prefix = subst (λ l. IsCharBoundary l 0) (sym (tail_is heap index bytes stands)) (prefix_boundary bytes stands.after utf8) in
      let at_sum : IsCharBoundary heap (index + 0) = IsCharBoundary-from_rest heap index 0 (omega (arith, ended_length heap index bytes stands)) prefix in
      subst (IsCharBoundary heap) (omega arith) at_sum

  -- the NUL that follows them
  pub nul_stands : slice_index heap (index + length bytes) ≡ 0
  nul_stands = sym (get_or-drop index heap (length bytes) 0) ∙ nul_behind heap index bytes stands

  -- a character ends at their end
  pub end_boundary : IsCharBoundary heap (index + length bytes)
  end_boundary = IsCharBoundary-before_ascii heap (index + length bytes) (ended_length heap index bytes stands) (omega (arith, nul_stands))

  -- the bytes from a character's start up to a NUL are UTF-8, if the whole heap is
  pub bytes_utf8 : IsUtf8 heap → IsCharBoundary heap index → IsUtf8 bytes
  bytes_utf8 utf8 begins =
      let end = index + length bytes in
      subst IsUtf8 (bytes_are heap index bytes stands (end - index) (omega arith)) (IsUtf8-between heap index end utf8 (omega arith) begins end_boundary)

-- bytes with a NUL have a first one, and no NUL is before it
split_at_nul : (bytes : List ℕ) (offset : ℕ) → offset < length bytes → slice_index bytes offset ≡ 0 → (prefix : List ℕ) × (back : List ℕ) × (bytes ≡ prefix ++ 0 ∷ back) × HasNoNul prefix
split_at_nul [] offset within nul = absurd (omega (arith, within))
split_at_nul (byte ∷ bytes) zero within nul = ([], bytes, ap (λ b. b ∷ bytes) nul, λ i d few. absurd (omega (arith, few)))
split_at_nul (byte ∷ bytes) (suc offset) within nul = ⊎_elim
    (λ (some : 0 < byte).
    let tail = split_at_nul bytes offset (omega (arith, within)) nul in
    (byte ∷ tail.0, tail.1, ap (λ l. byte ∷ l) tail.2, All-cons (λ b. b ≢ 0) byte tail.0 (λ is. omega (arith, some, is)) tail.3))
    (λ (low : byte ≤ 0). ([], bytes, ap (λ b. b ∷ bytes) (omega (arith, low)), λ i d few. absurd (omega (arith, few))))
    (cases_lt 0 byte)

module _ (heap : List ℕ) (index : ℕ) where
  -- each index up to the last NUL has bytes with a NUL after them
  pub ended_up_to : (last : ℕ) → IsLastByte (is_byte 0) heap (Some last) → index ≤ last → (bytes : List ℕ) × IsEnded heap index bytes
  ended_up_to last is up_to =
      let nul : slice_index (drop index heap) (last - index) ≡ 0 = get_or-drop index heap (last - index) 0 ∙ (ap (slice_index heap) (omega (arith, up_to)) ∙ eqb-true _ 0 is.1) in
      let split = split_at_nul (drop index heap) (last - index) (omega (arith, length-drop index heap, up_to, is.0.high)) nul in (
        split.0,
        record {
          before = take index heap;
          after = split.1;
          whole = sym (take-append-drop index heap) ∙ ap (λ l. take index heap ++ l) split.2;
          at = length-take-le index heap (omega (arith, up_to, is.0.high));
          no_nul = split.3;
        },
      )

-- a character begins at an index above 0 of a text
pub text_begins : (heap : List ℕ) (index : ℕ) (text : List ℕ) → 0 < index → IsText heap index text → IsCharBoundary heap index
text_begins heap index text some (inl none) = absurd (omega (arith, none.0))
text_begins heap index text some (inr is) = text_boundary heap index text is.1 is.2
