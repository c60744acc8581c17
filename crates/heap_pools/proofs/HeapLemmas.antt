-- The heap of the flagged texts, extended by one use index.
use Rattle.heap_pools.proofs.Prelude.{◌≡◌, ℕ, zero, suc, ◌+◌, ◌<◌, ◌≤◌, max, Bool, true, false, List, [], ◌∷◌, ◌++◌, length, take, drop, get_or, slice_index_or, refl, sym, ap, ◌∙◌, true≢false, arith, length-append, add-one, false≢true, append_assoc, drop_at, take_at, ended, text_heap, used_at, flagged}
use Rattle.heap_pools.proofs.PlanLemmas.{flagged_split}
use Rattle.heap_pools.proofs.UseLemmas.{one_more}

pub ended-append : (a b : List (List ℕ)) → ended (a ++ b) ≡ ended a ++ ended b
ended-append [] b = refl
ended-append (t ∷ a) b = ap (λ l. t ++ 0 ∷ l) (ended-append a b) ∙ sym (append_assoc t (0 ∷ ended a) (ended b))

pub ended_push : (a : List (List ℕ)) (t : List ℕ) → ended (a ++ t ∷ []) ≡ (ended a ++ t) ++ 0 ∷ []
ended_push a t = ended-append a (t ∷ []) ∙ sym (append_assoc (ended a) t (0 ∷ []))

flagged_yes : (texts : List (List ℕ)) (flags : List Bool) (p : ℕ) → p < length texts → slice_index_or flags p false ≡ true → flagged (take (suc p) texts) (take (suc p) flags) ≡ flagged (take p texts) (take p flags) ++ used_at texts p ∷ []
flagged_yes [] flags p h e = absurd (omega arith)
flagged_yes (t ∷ ts) [] p h e = absurd (false≢true e)
flagged_yes (t ∷ ts) (true ∷ fs) zero h e = refl
flagged_yes (t ∷ ts) (false ∷ fs) zero h e = absurd (false≢true e)
flagged_yes (t ∷ ts) (true ∷ fs) (suc p) h e = ap (λ l. t ∷ l) (flagged_yes ts fs p (omega arith) e)
flagged_yes (t ∷ ts) (false ∷ fs) (suc p) h e = flagged_yes ts fs p (omega arith) e

flagged_no : (texts : List (List ℕ)) (flags : List Bool) (p : ℕ) → p < length texts → p < length flags → slice_index_or flags p false ≡ false → flagged (take (suc p) texts) (take (suc p) flags) ≡ flagged (take p texts) (take p flags)
flagged_no [] flags p h k e = absurd (omega arith)
flagged_no (t ∷ ts) [] p h k e = absurd (omega arith)
flagged_no (t ∷ ts) (true ∷ fs) zero h k e = absurd (true≢false e)
flagged_no (t ∷ ts) (false ∷ fs) zero h k e = refl
flagged_no (t ∷ ts) (true ∷ fs) (suc p) h k e = ap (λ l. t ∷ l) (flagged_no ts fs p (omega arith) (omega arith) e)
flagged_no (t ∷ ts) (false ∷ fs) (suc p) h k e = flagged_no ts fs p (omega arith) (omega arith) e

-- a heap that has an entry; and where the next one begins
pub heap_is : (before : List (List ℕ)) (entry : List ℕ) (after : List (List ℕ)) → text_heap (before ++ entry ∷ after) ≡ 0 ∷ ended (before ++ entry ∷ after)
heap_is [] entry after = refl
heap_is (first ∷ before) entry after = refl

pub heap_begun : (es : List (List ℕ)) → max (length (text_heap es)) 1 ≡ 1 + length (ended es)
heap_begun [] = omega arith
heap_begun (e ∷ es) = omega arith

pub heap_some : (es : List (List ℕ)) → 0 < length (text_heap es) → text_heap es ≡ 0 ∷ ended es
heap_some [] h = absurd (omega arith)
heap_some (e ∷ es) h = refl

pub heap_none : (es : List (List ℕ)) → length (text_heap es) ≡ 0 → text_heap es ++ 0 ∷ [] ≡ 0 ∷ ended es
heap_none [] h = refl
heap_none (e ∷ es) h = absurd (omega arith)

pub length_push : (es : List (List ℕ)) (t : List ℕ) → length (text_heap (es ++ t ∷ [])) ≡ max (length (text_heap es)) 1 + length t + 1
length_push es t = ap length (heap_is es t [] ∙ ap (λ l. 0 ∷ l) (ended_push es t)) ∙ omega (arith, heap_begun es, length-append (ended es ++ t) (0 ∷ []), length-append (ended es) t)

module _ (texts : List (List ℕ)) (flags : List Bool) (p : ℕ) (in_texts : p < length texts) where
  pub more_flagged : slice_index_or flags p false ≡ true → flagged (take (p + 1) texts) (take (p + 1) flags) ≡ flagged (take p texts) (take p flags) ++ used_at texts p ∷ []
  more_flagged e = ap (λ n. flagged (take n texts) (take n flags)) (add-one p) ∙ flagged_yes texts flags p in_texts e

  pub same_flagged : p < length flags → slice_index_or flags p false ≡ false → flagged (take (p + 1) texts) (take (p + 1) flags) ≡ flagged (take p texts) (take p flags)
  same_flagged h e = ap (λ n. flagged (take n texts) (take n flags)) (add-one p) ∙ flagged_no texts flags p in_texts h e

  pub ended_total : slice_index_or flags p false ≡ true → length (ended (flagged (take p texts) (take p flags))) + length (used_at texts p) + 1 ≤ length (ended (flagged texts flags))
  ended_total e =
      let s = flagged_split texts flags p in_texts e in
      let a = ap (λ l. length (ended l)) s.1 in
      let b = ap length (ended-append (flagged (take p texts) (take p flags)) (used_at texts p ∷ s.0)) in
      omega (arith, length-append (ended (flagged (take p texts) (take p flags))) (ended (used_at texts p ∷ s.0)), length-append (used_at texts p) (0 ∷ ended s.0))

  pub heap_total : slice_index_or flags p false ≡ true → length (text_heap (flagged (take p texts) (take p flags) ++ used_at texts p ∷ [])) ≤ length (text_heap (flagged texts flags))
  heap_total e =
      let more = ended_total e in
      omega (arith, more, length_push (flagged (take p texts) (take p flags)) (used_at texts p), heap_begun (flagged (take p texts) (take p flags)), heap_begun (flagged texts flags))

-- one more number at the end of a list of a function's values
pub values_more : (f : ℕ → ℕ) (xs : List ℕ) (i x : ℕ) → length xs ≡ i → x ≡ f i → ((k : ℕ) → k < i → get_or xs k 0 ≡ f k) → (k : ℕ) → k < i + 1 → get_or (xs ++ x ∷ []) k 0 ≡ f k
values_more f xs i x long new old = one_more (λ (k y : ℕ). y ≡ f k) xs x 0 i long new old

-- a text at the end of an entry, and that it is at its index
pub entry_parts : (before : List (List ℕ)) (entry : List ℕ) (after : List (List ℕ)) (prefix text : List ℕ) → entry ≡ prefix ++ text
    → 0 ∷ ended (before ++ entry ∷ after) ≡ ((0 ∷ ended before) ++ prefix) ++ (text ++ 0 ∷ ended after)
entry_parts before entry after prefix text e =
    ap (λ l. 0 ∷ l) (ended-append before (entry ∷ after)) ∙ ap (λ l. 0 ∷ (ended before ++ (l ++ 0 ∷ ended after))) e ∙ simp append_assoc

pub stands_in : (before : List (List ℕ)) (entry : List ℕ) (after : List (List ℕ)) (prefix text : List ℕ) → entry ≡ prefix ++ text
    → take (length text) (drop (1 + length (ended before) + length prefix) (0 ∷ ended (before ++ entry ∷ after))) ≡ text
stands_in before entry after prefix text e =
    let at = 1 + length (ended before) + length prefix in
    ap (λ l. take (length text) (drop at l)) (entry_parts before entry after prefix text e)
    ∙ ap (take (length text)) (drop_at ((0 ∷ ended before) ++ prefix) (text ++ 0 ∷ ended after) at (omega (arith, length-append (0 ∷ ended before) prefix)))
    ∙ take_at text (0 ∷ ended after) (length text) refl
