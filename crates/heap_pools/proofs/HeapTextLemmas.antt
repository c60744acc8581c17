-- The texts of a strings heap: the bytes before a NUL.
use Rattle.heap_pools.proofs.Prelude.{◌≡◌, ◌==◌, ◌≢◌, ℕ, zero, suc, ◌+◌, ◌-◌, ◌<◌, ◌≤◌, cond, List, [], ◌∷◌, ◌++◌, length, take, drop, slice_index, slice_index_or, inl, inr, refl, sym, ap, ◌∙◌, ⊎_elim, arith, length-drop, cases_eq, eqb-true, false_from_ne_true, drop_at, drop-drop, nil_from_length, ext_get_or, get_or-map, length-map, All-head, All-tail, All-cons, All-nil, HasNoNul, IsText}
use Rattle.heap_pools.specs.HeapTexts.{before_nul, heap_text, texts_at}

at_nul : (byte : ℕ) (bytes : List ℕ) → byte ≡ 0 → before_nul (byte ∷ bytes) ≡ []
at_nul byte bytes e = ap (λ b. before_nul (b ∷ bytes)) e

past_byte : (byte : ℕ) (bytes : List ℕ) → byte ≢ 0 → before_nul (byte ∷ bytes) ≡ byte ∷ before_nul bytes
past_byte byte bytes apart = ap (λ b. cond b [] (byte ∷ before_nul bytes)) (false_from_ne_true (byte == 0) (λ nul. apart (eqb-true byte 0 nul)))

-- the bytes before a NUL, from a later one on
pub before_nul_drop : (bytes : List ℕ) (k : ℕ) → k ≤ length (before_nul bytes) → drop k (before_nul bytes) ≡ before_nul (drop k bytes)
before_nul_drop bytes zero h = refl
before_nul_drop [] (suc k) h = absurd (omega (arith, h))
before_nul_drop (byte ∷ bytes) (suc k) h = ⊎_elim
    (λ (nul : byte ≡ 0). absurd (omega (arith, h, ap length (at_nul byte bytes nul))))
    (λ (some : byte ≢ 0). ap (drop (suc k)) (past_byte byte bytes some) ∙ before_nul_drop bytes k (omega (arith, h, ap length (past_byte byte bytes some))))
    (cases_eq byte 0)

pub before_nul_plain : (bytes : List ℕ) → HasNoNul (before_nul bytes)
before_nul_plain [] = All-nil (λ byte. byte ≢ 0)
before_nul_plain (byte ∷ bytes) = ⊎_elim
    (λ (nul : byte ≡ 0). rw (at_nul byte bytes nul) (All-nil (λ byte. byte ≢ 0)))
    (λ (some : byte ≢ 0). rw (past_byte byte bytes some) (All-cons (λ byte. byte ≢ 0) byte (before_nul bytes) some (before_nul_plain bytes)))
    (cases_eq byte 0)

pub before_nul_is : (bytes after : List ℕ) → HasNoNul bytes → before_nul (bytes ++ 0 ∷ after) ≡ bytes
before_nul_is [] after h = refl
before_nul_is (byte ∷ bytes) after h =
    past_byte byte (bytes ++ 0 ∷ after) (All-head (λ byte. byte ≢ 0) byte bytes h)
    ∙ ap (λ l. byte ∷ l) (before_nul_is bytes after (All-tail (λ byte. byte ≢ 0) byte bytes h))

-- the first NUL of the bytes
pub before_first : (bytes : List ℕ) (n : ℕ) → ((k : ℕ) → k < n → slice_index bytes k ≢ 0) → n < length bytes → slice_index bytes n ≡ 0 → before_nul bytes ≡ take n bytes
before_first [] n none within nul = absurd (omega (arith, within))
before_first (byte ∷ bytes) zero none within nul = at_nul byte bytes nul
before_first (byte ∷ bytes) (suc n) none within nul =
    past_byte byte bytes (none 0 (omega arith))
    ∙ ap (λ l. byte ∷ l) (before_first bytes n (λ k h. none (suc k) (omega (arith, h))) (omega (arith, within)) nul)

-- bytes without a NUL
pub before_none : (bytes : List ℕ) → ((k : ℕ) → k < length bytes → slice_index bytes k ≢ 0) → before_nul bytes ≡ bytes
before_none [] none = refl
before_none (byte ∷ bytes) none =
    past_byte byte bytes (none 0 (omega arith))
    ∙ ap (λ l. byte ∷ l) (before_none bytes (λ k h. none (suc k) (omega (arith, h))))

-- the text at an index above 0
pub heap_text_some : (heap : List ℕ) (index : ℕ) → 0 < index → heap_text heap index ≡ before_nul (drop index heap)
unfolding heap_text
heap_text_some heap zero h = absurd (omega (arith, h))
heap_text_some heap (suc before) h = refl

pub heap_text_none : (heap : List ℕ) (index : ℕ) → index ≡ 0 → heap_text heap index ≡ []
unfolding heap_text
heap_text_none heap zero h = refl
heap_text_none heap (suc before) h = absurd (omega (arith, h))

pub heap_text_past : (heap : List ℕ) (index : ℕ) → length heap < index → heap_text heap index ≡ []
heap_text_past heap index h =
    heap_text_some heap index (omega (arith, h))
    ∙ ap before_nul (nil_from_length (drop index heap) (omega (arith, h, length-drop index heap)))

-- no text has a NUL
pub heap_text_plain : (heap : List ℕ) (index : ℕ) → HasNoNul (heap_text heap index)
unfolding heap_text
heap_text_plain heap zero = All-nil (λ byte. byte ≢ 0)
heap_text_plain heap (suc before) = before_nul_plain (drop (suc before) heap)

-- the text at a later start of the same group
pub heap_text_drop : (heap : List ℕ) (from index : ℕ) → from ≤ index → index - from ≤ length (heap_text heap from) → drop (index - from) (heap_text heap from) ≡ heap_text heap index
unfolding heap_text
heap_text_drop heap zero index low high =
    let none : index ≡ 0 = omega (arith, high) in
    ap (λ k. drop (k - 0) (heap_text heap 0)) none ∙ sym (heap_text_none heap index none)
heap_text_drop heap (suc before) index low high =
    let k = index - suc before in
    let is : suc before + k ≡ index = omega (arith, low) in
    before_nul_drop (drop (suc before) heap) k high
    ∙ ap before_nul (drop-drop k (suc before) heap ∙ ap (λ n. drop n heap) is)
    ∙ sym (heap_text_some heap index (omega (arith, low)))

pub text_is : (heap : List ℕ) (index : ℕ) (text : List ℕ) → IsText heap index text → heap_text heap index ≡ text
text_is heap index text (inl none) = heap_text_none heap index none.0 ∙ sym none.1
text_is heap index text (inr some) =
    let e = some.1 in
    heap_text_some heap index some.0
    ∙ ap before_nul (ap (drop index) e.whole ∙ drop_at e.before (text ++ 0 ∷ e.after) index e.at)
    ∙ before_nul_is text e.after e.no_nul

pub texts_are : (heap indexes : List ℕ) (texts : List (List ℕ)) → length texts ≡ length indexes → ((k : ℕ) → k < length indexes → IsText heap (slice_index indexes k) (slice_index_or texts k [])) → texts_at heap indexes ≡ texts
texts_are heap indexes texts long each = ext_get_or [] _ _ (length-map indexes (heap_text heap) ∙ sym long) (λ k h.
    let within : k < length indexes = omega (arith, h, length-map indexes (heap_text heap)) in
    get_or-map (heap_text heap) indexes k 0 [] within ∙ text_is heap (slice_index indexes k) (slice_index_or texts k []) (each k within))
