-- Texts in a heap of ASCII, by the offset of its last NUL.
use Rattle.checks.proofs.Prelude.{ℕ, ◌-◌, ◌≤◌, List, [], length, take, drop, Option, Some, None, inl, inr, refl, subst, arith, unwrap_or, IsAscii, IsUtf8-from_ascii, IsAscii-drop, IsAscii-take, cases_eq, IsLastByte, is_byte, AllHold, IsText, rules_of_text, HasTextsTo}
use Rattle.heap_entries.proofs.TextLemmas.{bytes_are}
use Rattle.heap_entries.proofs.WholeLemmas.{ended_up_to}

-- at index 0 there is a text in any heap
sure_none : (heap : List ℕ) → HasTextsTo heap 0
sure_none heap = record { each = λ index low. ([], inl (omega arith, refl)) }

-- in a heap of ASCII there is one at each index up to the last NUL
pub sure_found : (heap : List ℕ) (found : Option ℕ) → IsAscii heap → IsLastByte (is_byte 0) heap found → HasTextsTo heap (unwrap_or found 0)
sure_found heap None ascii is = sure_none heap
sure_found heap (Some last) ascii is = record {
  each = λ index low. elim (cases_eq index 0) [
    | inl none ↦ ([], inl (none, refl))
    | inr some ↦
        let ended = ended_up_to heap index last is low in
        let all = subst IsAscii (bytes_are heap index ended.0 ended.1 (length ended.0) refl) (IsAscii-take (drop index heap) (length ended.0) (IsAscii-drop heap index ascii)) in
        (ended.0, inr (omega arith, ended.1, IsUtf8-from_ascii ended.0 all))
  ];
}

-- an index with a text obeys the rules for texts
holds : (heap : List ℕ) (index : ℕ) → (text : List ℕ) × IsText heap index text → (offset : ℕ) → AllHold (rules_of_text heap index offset)
holds heap index (text, inl none) offset = (inl none.0, ((text, inl none), tt))
holds heap index (text, inr is) offset = (inr (text, is.1), ((text, inr is), tt))

pub sure_holds : (heap : List ℕ) (end index : ℕ) → HasTextsTo heap end → index ≤ end → (offset : ℕ) → AllHold (rules_of_text heap index offset)
sure_holds heap end index sure low = holds heap index (sure.each index low)
