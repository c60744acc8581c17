-- From the first uses to the heap of the holders.
use Rattle.heap_pools.proofs.Prelude.{◌≡◌, ℕ, zero, suc, ◌+◌, ◌-◌, ◌<◌, ◌≤◌, Bool, true, false, not, ◌&&◌, ◌||◌, cond, List, [], ◌∷◌, ◌++◌, length, take, get_or, filter, slice_index_or, refl, sym, ap, subst, ◌∙◌, ⊎_elim, true≢false, arith, length-append, list_any, bytes_eq, same_text, Less, and_parts, or_parts, and_right, cases_Bool, cases_lt, false_from_ne_true, false≢true, not-true, nat_list_eq_equiv, append_assoc, append-nil, get_or_default, Any-from_list_any, list_any_at, ends_with, ending_cmp, is_among, first_uses, is_holder, ended, text_from, Use, no_use, text_at, use_index_at, used_at, AreFirstUses, IsTop, IsRun, FindsHolder, flagged}
use Rattle.heap_pools.proofs.EndingLemmas.{ends_from, ends_length, ends_itself, ends_cases, ends_between, not_both, not_itself}

-- the index of an element that passes a test
pub any_at : {X : Type 0} (test : X → Bool) (xs : List X) (d : X) → list_any test xs ≡ true → (k : ℕ) × (k < length xs) × (test (get_or xs k d) ≡ true)
any_at test xs d h =
    let a = Any-from_list_any test xs h in
    (a.0, a.2, ap test (get_or_default xs a.0 d a.1 a.2 ∙ a.3) ∙ a.4)

pub differ_from_false : (x y : List ℕ) → bytes_eq x y ≡ false → x ≡ y → ⊥
differ_from_false x y h e = true≢false (sym (nat_list_eq_equiv.refl x) ∙ ap (bytes_eq x) e ∙ h)

pub false_from_differ : (x y : List ℕ) → (x ≡ y → ⊥) → bytes_eq x y ≡ false
false_from_differ x y apart = false_from_ne_true (bytes_eq x y) (λ e. apart (same_text x y (sym e)))

-- the texts of sorted uses
module _ (used : List (List ℕ)) (ranked : List Use) (f : AreFirstUses used ranked) where
  -- a text comes after its endings
  pub ends_after : (i j : ℕ) → i < length ranked → j < length ranked → ends_with (text_at ranked j) (text_at ranked i) ≡ true → i ≤ j
  ends_after i j hi hj h = ⊎_elim
      (λ (lt : j < i). ⊎_elim
      (λ e. absurd (not_itself (text_at ranked i) (subst (λ t. ending_cmp t (text_at ranked i) ≡ Less) e (f.rises j i lt hi))))
      (λ less. absurd (not_both (text_at ranked i) (text_at ranked j) less (f.rises j i lt hi)))
      (ends_cases (text_at ranked j) (text_at ranked i) h))
      (λ le. le) (cases_lt j i)

  -- each text has one use
  pub one_use : (i j : ℕ) → i < length ranked → j < length ranked → text_at ranked i ≡ text_at ranked j → i ≡ j
  one_use i j hi hj e =
      let a = ends_after i j hi hj (ends_from (text_at ranked j) (text_at ranked i) [] (sym e)) in
      let b = ends_after j i hj hi (ends_from (text_at ranked i) (text_at ranked j) [] e) in
      omega arith

  -- the uses whose texts end with a use's text are its run
  pub in_run : (rank to k : ℕ) → IsRun ranked rank to → k < length ranked → ends_with (text_at ranked k) (text_at ranked rank) ≡ true → k < to
  in_run rank to k r hk h = ⊎_elim (λ (lt : k < to). lt) (λ (le : to ≤ k). ⊎_elim
      (λ (lt : to < k). absurd (true≢false (sym (ends_between (text_at ranked rank) (text_at ranked to) (text_at ranked k) (f.rises rank to r.low (omega arith)) (f.rises to k lt hk) h) ∙ r.outside (omega arith))))
      (λ (ge : k ≤ to). let e : k ≡ to = omega arith in absurd (true≢false (sym h ∙ ap (λ j. ends_with (text_at ranked j) (text_at ranked rank)) e ∙ r.outside (omega arith))))
      (cases_lt to k)) (cases_lt k to)

  -- a used text that ends with a use's text has a use
  use_of_used : (p k : ℕ) → p < length used → k < length ranked → ends_with (used_at used p) (text_at ranked k) ≡ true → (j : ℕ) × (j < length ranked) × (text_at ranked j ≡ used_at used p) × (use_index_at ranked j ≤ p)
  use_of_used p k hp hk h = f.firsts p hp (omega (arith, ends_length (used_at used p) (text_at ranked k) h, (f.uses_are k no_use hk).nonempty))

  -- a top is a text that no other used text ends with
  no_other : (k : ℕ) → k < length ranked → IsTop ranked k → list_any (λ other. ends_with other (text_at ranked k) && not (bytes_eq other (text_at ranked k))) used ≡ true → ⊥
  no_other k hk top h =
      let a = any_at (λ other. ends_with other (text_at ranked k) && not (bytes_eq other (text_at ranked k))) used [] h in
      let b = and_parts _ _ a.2 in
      let r = use_of_used a.0 k a.1 hk b.0 in
      let ends : ends_with (text_at ranked r.0) (text_at ranked k) ≡ true = ap (λ t. ends_with t (text_at ranked k)) r.2 ∙ b.0 in
      let apart : text_at ranked r.0 ≡ text_at ranked k → ⊥ = λ e. differ_from_false (used_at used a.0) (text_at ranked k) (not-true _ b.1) (sym r.2 ∙ e) in
      let le = ends_after k r.0 hk r.1 ends in
      ⊎_elim
      (λ (lt : k + 1 < r.0). true≢false (sym (ends_between (text_at ranked k) (text_at ranked (k + 1)) (text_at ranked r.0) (f.rises k (k + 1) (omega arith) (omega (arith, r.1))) (f.rises (k + 1) r.0 lt r.1) ends) ∙ top (omega (arith, r.1))))
      (λ (ge : r.0 ≤ k + 1). ⊎_elim
      (λ (lt : k < r.0). let e : r.0 ≡ k + 1 = omega arith in true≢false (sym ends ∙ ap (λ j. ends_with (text_at ranked j) (text_at ranked k)) e ∙ top (omega (arith, r.1))))
      (λ (ge : r.0 ≤ k). let e : r.0 ≡ k = omega arith in apart (ap (text_at ranked) e))
      (cases_lt k r.0))
      (cases_lt (k + 1) r.0)

  pub holder_from_top : (k : ℕ) → k < length ranked → IsTop ranked k → is_holder used (text_at ranked k) ≡ true
  unfolding is_holder
  holder_from_top k hk top = ap not (false_from_ne_true _ (no_other k hk top))

  pub top_from_holder : (k : ℕ) → k < length ranked → is_holder used (text_at ranked k) ≡ true → IsTop ranked k
  unfolding is_holder
  top_from_holder k hk h next = false_from_ne_true _ (λ ends. true≢false (sym (by ends) ∙ not-true _ h))
    where
      by : ends_with (text_at ranked (k + 1)) (text_at ranked k) ≡ true → list_any (λ other. ends_with other (text_at ranked k) && not (bytes_eq other (text_at ranked k))) used ≡ true
      by ends =
          let apart : text_at ranked (k + 1) ≡ text_at ranked k → ⊥ = λ e. not_itself (text_at ranked k) (subst (λ t. ending_cmp (text_at ranked k) t ≡ Less) e (f.rises k (k + 1) (omega arith) next)) in
          let here : text_at ranked (k + 1) ≡ used_at used (use_index_at ranked (k + 1)) = (f.uses_are (k + 1) no_use next).text in
          let passes : ends_with (text_at ranked (k + 1)) (text_at ranked k) && not (bytes_eq (text_at ranked (k + 1)) (text_at ranked k)) ≡ true = ap (λ b. b && not (bytes_eq (text_at ranked (k + 1)) (text_at ranked k))) ends ∙ ap not (false_from_differ (text_at ranked (k + 1)) (text_at ranked k) apart) in
          list_any_at (λ other. ends_with other (text_at ranked k) && not (bytes_eq other (text_at ranked k))) used (use_index_at ranked (k + 1)) [] (f.uses_are (k + 1) no_use next).within
          (subst (λ t. ends_with t (text_at ranked k) && not (bytes_eq t (text_at ranked k)) ≡ true) here passes)

-- the use index of the first use of the first holder that ends with a text
pub record IsFirstHolder (used : List (List ℕ)) (text : List ℕ) (use_index : ℕ) : Type 0 where
  pub within : use_index < length used
  pub holder : is_holder used (used_at used use_index) ≡ true
  pub ends : ends_with (used_at used use_index) text ≡ true
  pub fresh : (p : ℕ) → p < use_index → used_at used p ≡ used_at used use_index → ⊥
  pub least : (p : ℕ) → p < length used → is_holder used (used_at used p) ≡ true → ends_with (used_at used p) text ≡ true → use_index ≤ p

module _ (used : List (List ℕ)) (ranked : List Use) (f : AreFirstUses used ranked) where
  pub first_holder : (k use_index : ℕ) → k < length ranked → FindsHolder ranked k use_index → IsFirstHolder used (text_at ranked k) use_index
  first_holder k use_index hk h =
      let rank = h.first.rank in
      let in_ranked : rank < length ranked = omega (arith, h.first.high, h.run.high) in
      let here : text_at ranked rank ≡ used_at used use_index = (f.uses_are rank no_use in_ranked).text ∙ ap (used_at used) h.first.is in
      record {
        within = subst (λ p. p < length used) h.first.is (f.uses_are rank no_use in_ranked).within;
        holder = subst (λ t. is_holder used t ≡ true) here (holder_from_top used ranked f rank in_ranked h.first.has);
        ends = subst (λ t. ends_with t (text_at ranked k) ≡ true) here (⊎_elim
            (λ (lt : k < rank). h.run.inside rank lt h.first.high)
            (λ (ge : rank ≤ k). let e : k ≡ rank = omega (arith, h.first.low) in subst (λ j. ends_with (text_at ranked rank) (text_at ranked j) ≡ true) (sym e) (ends_itself (text_at ranked rank)))
            (cases_lt k rank));
        fresh = λ p lt e.
            let r = f.firsts p (omega (arith, (f.uses_are rank no_use in_ranked).within, h.first.is)) (subst (λ t. 0 < length t) (here ∙ sym e) (f.uses_are rank no_use in_ranked).nonempty) in
            let one : r.0 ≡ rank = one_use used ranked f r.0 rank r.1 in_ranked (r.2 ∙ e ∙ sym here) in
            omega (arith, r.3, ap (use_index_at ranked) one, h.first.is);
        least = λ p hp holds ends.
            let r = use_of_used used ranked f p k hp hk ends in
            let ends_rank : ends_with (text_at ranked r.0) (text_at ranked k) ≡ true = ap (λ t. ends_with t (text_at ranked k)) r.2 ∙ ends in
            let top = top_from_holder used ranked f r.0 r.1 (ap (is_holder used) r.2 ∙ holds) in
            let low = ends_after used ranked f k r.0 hk r.1 ends_rank in
            let high = in_run used ranked f k h.to r.0 h.run r.1 ends_rank in
            omega (arith, h.first.least r.0 low high top, r.3);
      }

-- the flagged texts before a use index, the one there, and those after it
pub flagged_split : (texts : List (List ℕ)) (flags : List Bool) (p : ℕ) → p < length texts → slice_index_or flags p false ≡ true → (tail : List (List ℕ)) × (flagged texts flags ≡ flagged (take p texts) (take p flags) ++ used_at texts p ∷ tail)
flagged_split [] flags p h e = absurd (omega arith)
flagged_split (t ∷ ts) [] p h e = absurd (false≢true e)
flagged_split (t ∷ ts) (true ∷ fs) zero h e = (flagged ts fs, refl)
flagged_split (t ∷ ts) (false ∷ fs) zero h e = absurd (false≢true e)
flagged_split (t ∷ ts) (true ∷ fs) (suc p) h e = let r = flagged_split ts fs p (omega arith) e in (r.0, ap (λ l. t ∷ l) r.1)
flagged_split (t ∷ ts) (false ∷ fs) (suc p) h e = flagged_split ts fs p (omega arith) e

-- a flagged text is the text at a use index whose flag is true
pub flagged_at : (test : List ℕ → Bool) (texts : List (List ℕ)) (flags : List Bool) (n : ℕ) → list_any test (flagged (take n texts) (take n flags)) ≡ true → (p : ℕ) × (p < n) × (p < length texts) × (slice_index_or flags p false ≡ true) × (test (used_at texts p) ≡ true)
flagged_at test [] flags zero h = absurd (false≢true h)
flagged_at test [] flags (suc n) h = absurd (false≢true h)
flagged_at test (t ∷ ts) flags zero h = absurd (false≢true h)
flagged_at test (t ∷ ts) [] (suc n) h = absurd (false≢true h)
flagged_at test (t ∷ ts) (false ∷ fs) (suc n) h = let r = flagged_at test ts fs n h in (suc r.0, omega (arith, r.1), omega (arith, r.2), r.3, r.4)
flagged_at test (t ∷ ts) (true ∷ fs) (suc n) h = ⊎_elim
    (λ (e : test t ≡ true). (0, omega arith, omega arith, refl, e))
    (λ e. let r = flagged_at test ts fs n (ap (λ b. b || list_any test (flagged (take n ts) (take n fs))) (sym e) ∙ h) in (suc r.0, omega (arith, r.1), omega (arith, r.2), r.3, r.4))
    (cases_Bool (test t))

-- the index of a text that is the ending of an entry, and of no entry before it
pub text_from-entry : (at : ℕ) (before : List (List ℕ)) (entry : List ℕ) (tail : List (List ℕ)) (text : List ℕ) → list_any (λ other. ends_with other text) before ≡ false → ends_with entry text ≡ true
    → text_from at (before ++ entry ∷ tail) text ≡ at + length (ended before) + length entry - length text
text_from-entry at [] entry tail text none ends = ap (λ b. cond b (at + length entry - length text) (text_from (at + length entry + 1) tail text)) ends ∙ ap (λ n. n + length entry - length text) (omega arith)
text_from-entry at (first ∷ before) entry tail text none ends =
    let apart = or_parts (ends_with first text) (list_any (λ other. ends_with other text) before) none in
    let sums : at + length first + 1 + length (ended before) ≡ at + length (ended (first ∷ before)) = omega (arith, length-append first (0 ∷ ended before)) in
    rw apart.0 (text_from-entry (at + length first + 1) before entry tail text apart.1 ends ∙ ap (λ n. n + length entry - length text) sums)

-- the holders are the flagged texts
pub holders-flagged : (test : List ℕ → Bool) (before texts : List (List ℕ)) (flags : List Bool) → length flags ≡ length texts
    → ((p : ℕ) → p < length texts → slice_index_or flags p false ≡ test (used_at texts p) && not (is_among (before ++ take p texts) (used_at texts p)))
    → filter test (first_uses before texts) ≡ flagged texts flags
holders-flagged test before [] flags long agree = refl
holders-flagged test before (t ∷ ts) [] long agree = absurd (omega arith)
holders-flagged test before (t ∷ ts) (f ∷ fs) long agree =
    let more = holders-flagged test (before ++ t ∷ []) ts fs (omega arith) (λ p h.
    agree (suc p) (omega arith) ∙ ap (λ l. test (used_at ts p) && not (is_among l (used_at ts p))) (sym (append_assoc before (t ∷ []) (take p ts)))) in
    let here : f ≡ test t && not (is_among before t) = agree 0 (omega arith) ∙ ap (λ l. test t && not (is_among l t)) (append-nil before) in
    ⊎_elim
    (λ (e : is_among before t ≡ true).
    ap (λ b. filter test (cond b (first_uses (before ++ t ∷ []) ts) (t ∷ first_uses (before ++ t ∷ []) ts))) e ∙ more
    ∙ ap (λ b. cond b (t ∷ flagged ts fs) (flagged ts fs)) (sym (here ∙ and_right (test t) (not (is_among before t)) (ap not e))))
    (λ e.
    ap (λ b. filter test (cond b (first_uses (before ++ t ∷ []) ts) (t ∷ first_uses (before ++ t ∷ []) ts))) e
    ∙ ap (λ l. cond (test t) (t ∷ l) l) more
    ∙ ap (λ b. cond b (t ∷ flagged ts fs) (flagged ts fs)) (sym (here ∙ ap (λ b. test t && not b) e ∙ and_true (test t))))
    (cases_Bool (is_among before t))
  where
    and_true : (b : Bool) → b && true ≡ b
    and_true true = refl
    and_true false = refl
