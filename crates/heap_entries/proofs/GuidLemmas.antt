-- What an index of a GUID names in its heap.
use Rattle.heap_entries.proofs.Prelude.{◌≡◌, ℕ, ◌-◌, ◌*◌, ◌<◌, ◌≤◌, List, ◌++◌, length, take, drop, Option, Some, None, sym, ap, ◌∙◌, arith, take-append-drop, drop_at, take_at, length-take-le, IsGuidEntry, IsGuid}

-- the sixteen bytes at the offset of an entry are that entry
pub guid_stands : (heap : List ℕ) (number start : ℕ) (tail guid : List ℕ) → start ≡ 16 * (number - 1) → start ≤ length heap → tail ≡ drop start heap → 16 ≤ length tail → guid ≡ take 16 tail → IsGuidEntry heap number guid
guid_stands heap number start tail guid at within behind enough is = record {
  before = take start heap;
  after = drop 16 tail;
  whole = sym (take-append-drop start heap) ∙ ap (λ l. take start heap ++ l) (sym behind ∙ sym (take-append-drop 16 tail) ∙ ap (λ g. g ++ drop 16 tail) (sym is));
  at = length-take-le start heap within ∙ at;
  long = ap length is ∙ length-take-le 16 tail enough;
}

pub guid_is : (heap : List ℕ) (number start : ℕ) (guid : List ℕ) → start ≡ 16 * (number - 1) → IsGuidEntry heap number guid → take 16 (drop start heap) ≡ guid
guid_is heap number start guid at e = ap (take 16) (ap (drop start) e.whole ∙ drop_at e.before (guid ++ e.after) start (e.at ∙ sym at)) ∙ take_at guid e.after 16 e.long

-- an index above 0 has at most one GUID, that of its entry
pub only_guid : (heap : List ℕ) (index start : ℕ) (found : List ℕ) (guid : Option (List ℕ)) → 0 < index → start ≡ 16 * (index - 1) → found ≡ take 16 (drop start heap) → IsGuid heap index guid → Some found ≡ guid
only_guid heap index start found None some at is null = absurd (omega (arith, null))
only_guid heap index start found (Some guid) some at is entry = ap Some (is ∙ guid_is heap index start guid at entry.1)
