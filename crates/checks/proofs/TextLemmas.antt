-- Texts within and before a known text.
use Rattle.std.proofs.Common.{◌≡◌, ◌≢◌, ℕ, ◌+◌, ◌-◌, ◌*◌, ◌/◌, ◌<◌, ◌≤◌, List, ◌∷◌, ◌++◌, length, take, drop, slice_index, slice_set, IsUtf8, Option, Some, None, is_some, is_err, Result, false, Ok, Err, inl, inr, refl, sym, ap, subst, ◌∙◌, arith, length-append, length-drop, append_assoc, eq-eqb}
use Rattle.checks.proofs.Prelude.{take-append-drop, take_at, drop-drop, length-take-le, All-append, All-drop, All-from_get_or, IsUtf8-drop, IsUtf8-take, IsCharBoundary-from_drop, IsCharBoundary-at_seam, false≢true, div-add-mod', mul-le, IsFirstByte, is_byte, AllHold, Reports, at_offset, rules_of_text, HeapFault, IsEnded, HasNoNul, AreStarts, Reaches}
use Rattle.heap_entries.specs.declared.fault.HeapFault.TheVariants.{BadUtf8}
use Rattle.checks.proofs.PassedLemmas.{slots_more}
use Rattle.heap_entries.proofs.TextLemmas.{tail_is, ended_length}
use Rattle.checks.proofs.Ended.{byte_is, no_text}

-- what is reported of ended bytes
pub text_answers : (heap : List ℕ) (start : ℕ) (bytes : List ℕ) → 0 < start → IsEnded heap start bytes → IsUtf8 bytes
    → {X : Type 0} (x : X) (offset : ℕ) → Reports (rules_of_text heap start offset) (at_offset offset (Ok x))
text_answers heap start bytes some ended utf8 x offset = (inr (bytes, ended), ((bytes, inr (some, ended, utf8)), tt))

pub no_text_answers : (heap : List ℕ) (start : ℕ) (bytes : List ℕ) → 0 < start → IsEnded heap start bytes → ¬ IsUtf8 bytes
    → (X : Type 0) (offset : ℕ) → Reports (rules_of_text heap start offset) (at_offset {X = X} offset (Err BadUtf8))
no_text_answers heap start bytes some ended not X offset =
    inr (inr (bytes, ended), inl (no_text heap start bytes some ended not, refl))

module _ (heap : List ℕ) (start : ℕ) (text : List ℕ) (ended : IsEnded heap start text) where
  -- the ending of a text from an offset within it
  pub ending_ended : (index : ℕ) → start ≤ index → index < start + length text → IsEnded heap index (drop (index - start) text)
  ending_ended index low high =
      let k : ℕ = index - start in
      record {
        before = ended.before ++ take k text;
        after = ended.after;
        whole = ended.whole ∙ ap (λ l. ended.before ++ (l ++ 0 ∷ ended.after)) (sym (take-append-drop k text)) ∙ simp append_assoc;
        at = omega (arith, length-append ended.before (take k text), length-take-le k text (omega arith), ended.at);
        no_nul = All-drop (λ byte. byte ≢ 0) k text ended.no_nul;
      }

  -- it is UTF-8 where a character begins with its first byte
  module _ (index : ℕ) (low : start ≤ index) (high : index < start + length text) where
    same_byte : slice_index text (index - start) ≡ slice_index heap index
    same_byte = byte_is heap start text ended (index - start) (omega arith) ∙ ap (slice_index heap) (omega arith)

    pub ending_utf8 : IsUtf8 text → (128 ≤ slice_index heap index → 192 ≤ slice_index heap index) → IsUtf8 (drop (index - start) text)
    ending_utf8 utf8 begins =
        IsUtf8-drop text (index - start) utf8 (omega arith, λ _. subst (λ byte. 128 ≤ byte → 192 ≤ byte) (sym same_byte) begins)

    pub ending_not : ¬ (128 ≤ slice_index heap index → 192 ≤ slice_index heap index) → ¬ IsUtf8 (drop (index - start) text)
    ending_not not utf8 =
        not (subst (λ byte. 128 ≤ byte → 192 ≤ byte) same_byte ((IsCharBoundary-from_drop text (index - start) (omega arith) utf8).1 (omega arith)))

  -- the bytes from an offset before a text up to it, with the text after them
  module _ (index : ℕ) (low : index ≤ start) (prefix : List ℕ) (is : prefix ≡ take (start - index) (drop index heap)) where
    pub longer_ended : HasNoNul prefix → IsEnded heap index (prefix ++ text)
    longer_ended none =
        let room = ended_length heap start text ended in
        let behind : drop (start - index) (drop index heap) ≡ text ++ 0 ∷ ended.after =
        drop-drop (start - index) index heap ∙ ap (λ n. drop n heap) (omega arith) ∙ tail_is heap start text ended in
        record {
          before = take index heap;
          after = ended.after;
          whole = sym (take-append-drop index heap)
              ∙ ap (λ l. take index heap ++ l) (sym (take-append-drop (start - index) (drop index heap)) ∙ ap (λ l. l ++ drop (start - index) (drop index heap)) (sym is)
              ∙ ap (λ l. prefix ++ l) behind ∙ sym (append_assoc prefix text (0 ∷ ended.after)));
          at = length-take-le index heap (omega arith);
          no_nul = All-append (λ byte. byte ≢ 0) prefix text none ended.no_nul;
        }

    pub longer_length : length (prefix ++ text) ≡ start - index + length text
    longer_length =
        let room = ended_length heap start text ended in
        omega (arith, length-append prefix text, ap length is, length-take-le (start - index) (drop index heap) (omega (arith, length-drop index heap)))

-- bytes before UTF-8 are UTF-8 if both together are
pub prefix_utf8 : (prefix text : List ℕ) → IsUtf8 text → IsUtf8 (prefix ++ text) → IsUtf8 prefix
prefix_utf8 prefix text utf8 all =
    subst IsUtf8 (take_at prefix text (length prefix) refl)
    (IsUtf8-take (prefix ++ text) (length prefix) all (IsCharBoundary-at_seam (prefix ++ text) prefix text refl utf8))

-- bytes in which no NUL is found have none
pub none_found : (bytes : List ℕ) (found : Option ℕ) → IsFirstByte (is_byte 0) bytes found → is_some found ≡ false → HasNoNul bytes
none_found bytes None is none = All-from_get_or (λ byte. byte ≢ 0) bytes 0 (λ k lt z. is k (omega arith) lt (eq-eqb _ 0 z))
none_found bytes (Some offset) is none = absurd (false≢true (sym none))

-- what a check that does not fail says
pub text_passed : {X : Type 0} (heap : List ℕ) (index : ℕ) (result : Result X HeapFault) → ((offset : ℕ) → Reports (rules_of_text heap index offset) (at_offset offset result))
    → is_err result ≡ false → (offset : ℕ) → AllHold (rules_of_text heap index offset)
text_passed heap index (Ok x) reports passes = reports
text_passed heap index (Err found) reports passes = absurd (false≢true (sym passes))

-- a text that reaches an end has endings that reach it, each from the beginning of a character
pub ending_reaches : (heap : List ℕ) (start reach : ℕ) → Reaches heap start reach → (offset end : ℕ) → start ≤ offset → offset < end → end ≤ reach
    → (128 ≤ slice_index heap offset → 192 ≤ slice_index heap offset) → Reaches heap offset end
ending_reaches heap start reach known offset end low high within begins = record {
  text = drop (offset - start) known.text;
  ended = ending_ended heap start known.text known.ended offset low (omega (arith, known.long));
  utf8 = ending_utf8 heap start known.text known.ended offset low (omega (arith, known.long)) known.utf8 begins;
  long = omega (arith, known.long, length-drop (offset - start) known.text);
}

-- fewer bytes are reached too
pub reaches_less : (heap : List ℕ) (start reach end : ℕ) → Reaches heap start reach → end ≤ reach → Reaches heap start end
reaches_less heap start reach end known less = record { text = known.text; ended = known.ended; utf8 = known.utf8; long = omega (arith, known.long) }

-- one start more
pub starts_set : (heap : List ℕ) (part : ℕ) (starts : List ℕ) (slot start : ℕ) → AreStarts heap part starts → slot < length starts → slot * part ≤ start
    → Reaches heap start ((slot + 1) * part) → AreStarts heap part (slice_set starts slot start)
starts_set heap part starts slot start are within low reaches = record {
  low = slots_more (λ k value. k * part ≤ value) starts slot start within low are.low;
  long = slots_more (λ k value. Reaches heap value ((k + 1) * part)) starts slot start within reaches are.long;
}

-- a part that ends within a reach
pub part_reached : (slot part reach : ℕ) → slot < reach / part → (slot + 1) * part ≤ reach
part_reached slot part reach below =
    omega (arith, mul-le (slot + 1) part (reach / part) part (omega arith) (omega arith), div-add-mod' reach part)
