-- StartUses in a strings heap: the texts at them, and the first use index of each start.
use Rattle.heap_pools.proofs.Prelude.{◌≡◌, ◌≢◌, ℕ, ◌+◌, ◌<◌, List, [], All, length, set, slice_index, sym, ap, subst, ◌∙◌, ⊎_elim, arith, Bor, IsPermutation, cases_eq, length-map, length-set, ext_get_or, get_or-map, get_or_default, get_or-set_same, get_or-set_other, All-from_get_or, Contains-get_or, All-permutation, Contains-permutation, HasNoNul, start_use_at, AreStartUses, IsEarlierUse, used_at, bytes_of}
use Rattle.heap_pools.specs.declared.heap_texts.StartUse.{StartUse}
use Rattle.heap_pools.specs.HeapTexts.{heap_text, texts_at}
use Rattle.heap_pools.specs.Ranking.{AreSources}
use Rattle.heap_pools.proofs.FirstLemmas.{last_cases}
use Rattle.heap_pools.proofs.HeapTextLemmas.{heap_text_plain}
use Rattle.heap_pools.proofs.UseLemmas.{length-bytes, used_read, no_text}

abbrev pub no_start_use : StartUse
no_start_use = record { start = 0; use_index = 0 }

-- the start_use of a use index
abbrev pub IsStartUse : List ℕ → ℕ → StartUse → Type 0
IsStartUse starts use_index start_use = (start_use.use_index ≡ use_index) × (start_use.start ≡ slice_index starts use_index)

-- the start_uses in another order
pub start_uses_sorted : (starts : List ℕ) (old new : List StartUse) → length old ≡ length starts → ((k : ℕ) → k < length starts → IsStartUse starts k (start_use_at old k)) → IsPermutation old new → AreStartUses starts new
start_uses_sorted starts old new long each moved =
    let fits : (k : ℕ) → k < length new → ((start_use_at new k).use_index < length starts) × ((start_use_at new k).start ≡ slice_index starts (start_use_at new k).use_index) = λ k h. All-permutation (λ (start_use : StartUse). (start_use.use_index < length starts) × (start_use.start ≡ slice_index starts start_use.use_index)) old new moved (All-from_get_or (λ (start_use : StartUse). (start_use.use_index < length starts) × (start_use.start ≡ slice_index starts start_use.use_index)) old no_start_use (λ i i_in.
    let is = each i (omega (arith, i_in, long)) in
    (omega (arith, is.0, i_in, long), is.1 ∙ ap (slice_index starts) (sym is.0)))) k no_start_use h in
    record {
      within = λ k h. (fits k h).0;
      start = λ k h. (fits k h).1;
      all = λ use_index h.
          let x = start_use_at old use_index in
          let found = Contains-permutation old new x moved (Contains-get_or old use_index no_start_use (omega (arith, h, long))) in
          let same = get_or_default new found.0 no_start_use x found.1 ∙ found.2 in
          (found.0, found.1, ap (λ (p : StartUse). p.use_index) same ∙ (each use_index h).0);
    }

-- a text that is written, and the others
pub text_written : (texts : List (Bor (List ℕ))) (at : ℕ) (text : Bor (List ℕ)) → at < length texts → used_at (bytes_of (set texts at text)) at ≡ text.now
text_written texts at text h = used_read (set texts at text) at (omega (arith, h, length-set texts at text)) ∙ ap (λ (t : Bor (List ℕ)). t.now) (get_or-set_same texts at text no_text h)

pub text_kept : (texts : List (Bor (List ℕ))) (at : ℕ) (text : Bor (List ℕ)) (k : ℕ) → k < length texts → k ≢ at → used_at (bytes_of (set texts at text)) k ≡ used_at (bytes_of texts) k
text_kept texts at text k h apart =
    used_read (set texts at text) k (omega (arith, h, length-set texts at text)) ∙ ap (λ (t : Bor (List ℕ)). t.now) (get_or-set_other texts at k text no_text apart) ∙ sym (used_read texts k h)

module _ (heap starts : List ℕ) (start_uses : List StartUse) (p : AreStartUses starts start_uses) where
  -- the texts of the first start_uses are written, and that of one more
  pub texts_more : (n : ℕ) → n < length start_uses → (texts : List (Bor (List ℕ))) (text : Bor (List ℕ)) → length texts ≡ length starts → text.now ≡ heap_text heap (start_use_at start_uses n).start
      → ((k : ℕ) → k < n → used_at (bytes_of texts) (start_use_at start_uses k).use_index ≡ heap_text heap (start_use_at start_uses k).start)
      → (k : ℕ) → k < n + 1 → used_at (bytes_of (set texts (start_use_at start_uses n).use_index text)) (start_use_at start_uses k).use_index ≡ heap_text heap (start_use_at start_uses k).start
  texts_more n within texts text long is old k h =
      let at = (start_use_at start_uses n).use_index in
      let own = (start_use_at start_uses k).use_index in
      let k_in : k < length start_uses = omega (arith, h, within) in
      ⊎_elim
      (λ (here : own ≡ at).
      ap (used_at (bytes_of (set texts at text))) here ∙ text_written texts at text (omega (arith, p.within n within, long)) ∙ is
      ∙ ap (heap_text heap) (p.start n within ∙ ap (slice_index starts) (sym here) ∙ sym (p.start k k_in)))
      (λ (apart : own ≢ at).
      let lt : k < n = ⊎_elim (λ (a : k < n). a) (λ (e : k ≡ n). absurd (apart (ap (λ i. (start_use_at start_uses i).use_index) e))) (last_cases k n h) in
      text_kept texts at text own (omega (arith, p.within k k_in, long)) apart ∙ old k lt)
      (cases_eq own at)

  pub texts_all : (texts : List (List ℕ)) → length texts ≡ length starts → ((k : ℕ) → k < length start_uses → used_at texts (start_use_at start_uses k).use_index ≡ heap_text heap (start_use_at start_uses k).start) → texts ≡ texts_at heap starts
  texts_all texts long each = ext_get_or [] texts (texts_at heap starts) (long ∙ sym (length-map starts (heap_text heap))) (λ i h.
      let within : i < length starts = omega (arith, h, long) in
      let found = p.all i within in
      ap (used_at texts) (sym found.2) ∙ each found.0 found.1 ∙ ap (heap_text heap) (p.start found.0 found.1 ∙ ap (slice_index starts) found.2) ∙ sym (get_or-map (heap_text heap) starts i 0 [] within))

-- no text of a heap has a NUL
pub texts_plain : (heap starts : List ℕ) → All HasNoNul (texts_at heap starts)
texts_plain heap starts = All-from_get_or HasNoNul (texts_at heap starts) [] (λ i h.
    subst HasNoNul (sym (get_or-map (heap_text heap) starts i 0 [] (omega (arith, h, length-map starts (heap_text heap))))) (heap_text_plain heap (slice_index starts i)))

-- the sources of the texts, when they are passed on
pub sources_passed : (passed texts : List (Bor (List ℕ))) (sources : List ℕ) → passed ≡ texts → length sources ≡ length passed
    → ((use_index : ℕ) → use_index < length passed → 0 < length (used_at (bytes_of passed) use_index) → IsEarlierUse (bytes_of passed) use_index (slice_index sources use_index))
    → AreSources (bytes_of texts) sources
sources_passed passed texts sources same long each = subst (λ t. AreSources (bytes_of t) sources) same (record {
  len = omega (arith, long, length-bytes passed);
  each = λ use_index h some. each use_index (omega (arith, h, length-bytes passed)) some;
})
