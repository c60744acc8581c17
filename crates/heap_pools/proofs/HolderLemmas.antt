-- The heap of the texts used first is not longer than the heap of all: each of its entries is at the end of a
-- different entry there.
use Rattle.heap_pools.proofs.Prelude.{◌≡◌, ℕ, ◌<◌, ◌≤◌, Bool, true, false, not, ◌&&◌, cond, true≢false, List, [], ◌∷◌, ◌++◌, length, filter, drop, ◌⊎◌, inl, inr, refl, sym, ap, subst, ◌∙◌, ⊎_elim, arith, length-append, list_any, bytes_eq, same_text, cases_Bool, cond_both, not-true, or_parts, nat_list_eq_equiv, Contains-append_left, All-filter, is_among, first_uses, distinct, ends_with, is_holder, holders, ended, text_heap}
use Rattle.std.proofs.Common.{Contains}
use Rattle.std.proofs.lemmas.List.Elements.{All-contains, All-contains_itself, filter_passes}
use Rattle.heap_pools.proofs.EndingLemmas.{ends_parts, ends_from, ends_length}
use Rattle.heap_pools.proofs.FoundLemmas.{held}
use Rattle.heap_pools.proofs.HeapLemmas.{ended-append}
use Rattle.heap_pools.proofs.MemberLemmas.{IsIn, in_any, any_in, first_of, among_in, among_push, contains_from_in, in_from_contains}

-- of two endings of one text, one ends with the other
ends_either : (p q a b : List ℕ) → p ++ a ≡ q ++ b → (ends_with a b ≡ true) ⊎ (ends_with b a ≡ true)
ends_either [] q a b e = inl (ends_from a b q e)
ends_either (x ∷ p) [] a b e = inr (ends_from b a (x ∷ p) (sym e))
ends_either (x ∷ p) (y ∷ q) a b e = ends_either p q a b (ap (drop 1) e)

pub one_ends : (text a b : List ℕ) → ends_with text a ≡ true → ends_with text b ≡ true → (ends_with a b ≡ true) ⊎ (ends_with b a ≡ true)
one_ends text a b ha hb =
    let p = ends_parts text a ha in
    let q = ends_parts text b hb in
    ends_either p.0 q.0 a b (sym p.1 ∙ q.1)

-- a used text that ends with a holder is equal to it
pub holder_is : (used : List (List ℕ)) (holder text : List ℕ) → is_holder used holder ≡ true → IsIn text used → ends_with text holder ≡ true → text ≡ holder
unfolding is_holder
holder_is used holder text is there ends = ⊎_elim
    (λ (e : bytes_eq text holder ≡ true). same_text text holder (sym e))
    (λ (e : bytes_eq text holder ≡ false).
    let other : list_any (λ other. ends_with other holder && not (bytes_eq other holder)) used ≡ true =
    in_any (λ other. ends_with other holder && not (bytes_eq other holder)) text used there (ap (λ b. b && not (bytes_eq text holder)) ends ∙ ap not e) in
    absurd (true≢false (sym other ∙ not-true _ is)))
    (cases_Bool (bytes_eq text holder))

-- the elements that a filter leaves
left_in : {X : Type 0} (test : X → Bool) (x : X) (xs : List X) → IsIn x (filter test xs) → IsIn x xs × (test x ≡ true)
left_in test x xs h =
    let left = contains_from_in (filter test xs) x h in (
      in_from_contains xs x (All-contains (Contains xs) (filter test xs) x (All-filter test (Contains xs) xs (All-contains_itself xs)) left),
      All-contains (λ y. test y ≡ true) (filter test xs) x (filter_passes test xs) left,
    )

-- a first use is among the values, and not in `before`
first_is : (before values : List (List ℕ)) (x : List ℕ) → IsIn x (first_uses before values) → IsIn x values × (is_among before x ≡ false)
first_is before [] x h = absurd h
first_is before (value ∷ values) x h =
    let further : IsIn x (first_uses (before ++ value ∷ []) values) → IsIn x (value ∷ values) × (is_among before x ≡ false) = λ later.
    let tail = first_is (before ++ value ∷ []) values x later in
    (inr tail.0, (or_parts _ _ (sym (among_push before value x) ∙ tail.1)).0) in
    ⊎_elim
    (λ (e : is_among before value ≡ true). further (subst (λ b. IsIn x (cond b (first_uses (before ++ value ∷ []) values) (value ∷ first_uses (before ++ value ∷ []) values))) e h))
    (λ (e : is_among before value ≡ false). ⊎_elim
    (λ (same : value ≡ x). (inl same, ap (is_among before) (sym same) ∙ e))
    further
    (subst (λ b. IsIn x (cond b (first_uses (before ++ value ∷ []) values) (value ∷ first_uses (before ++ value ∷ []) values))) e h))
    (cases_Bool (is_among before value))

-- no text ends with two of them
abbrev AreApart : List (List ℕ) → Type 0
AreApart [] = Unit {0}
AreApart (x ∷ xs) = ((other text : List ℕ) → IsIn other xs → ends_with text x ≡ true → ends_with text other ≡ true → ⊥) × AreApart xs

module _ (used : List (List ℕ)) where
  -- two holders that one text ends with are equal
  same_holder : (a b text : List ℕ) → is_holder used a ≡ true → is_holder used b ≡ true → IsIn a used → IsIn b used → ends_with text a ≡ true → ends_with text b ≡ true → a ≡ b
  same_holder a b text is_a is_b in_a in_b ends_a ends_b = ⊎_elim
      (λ (e : ends_with a b ≡ true). holder_is used b a is_b in_a e)
      (λ (e : ends_with b a ≡ true). sym (holder_is used a b is_a in_b e))
      (one_ends text a b ends_a ends_b)

  apart_from : (before values : List (List ℕ)) → ((x : List ℕ) → IsIn x values → IsIn x used) → AreApart (filter (is_holder used) (first_uses before values))
  apart_from before [] all = tt
  apart_from before (value ∷ values) all =
      let tail = first_uses (before ++ value ∷ []) values in
      let more : AreApart (filter (is_holder used) tail) = apart_from (before ++ value ∷ []) values (λ x h. all x (inr h)) in
      cond_both (is_among before value) tail (value ∷ tail) (λ list. AreApart (filter (is_holder used) list)) (λ _. more)
      (λ _. cond_both (is_holder used value) (value ∷ filter (is_holder used) tail) (filter (is_holder used) tail) AreApart
      (λ holds. (
        λ other text there ends_value ends_other.
            let left = left_in (is_holder used) other tail there in
            let first = first_is (before ++ value ∷ []) values other left.0 in
            let same = same_holder value other text holds left.1 (all value (inl refl)) (all other (inr first.0)) ends_value ends_other in
            true≢false (sym (nat_list_eq_equiv.refl other) ∙ ap (bytes_eq other) (sym same) ∙ (or_parts _ _ (sym (among_push before value other) ∙ first.1)).1),
        more,
      ))
      (λ _. more))

in_tail : (before after : List (List ℕ)) (x y : List ℕ) → IsIn y (before ++ x ∷ after) → (x ≡ y → ⊥) → IsIn y (before ++ after)
in_tail [] after x y (inl e) apart = absurd (apart e)
in_tail [] after x y (inr h) apart = h
in_tail (z ∷ before) after x y (inl e) apart = inl e
in_tail (z ∷ before) after x y (inr h) apart = inr (in_tail before after x y h apart)

-- texts at the ends of other texts, each at the end of a different one, take no more bytes than these
ended_longer : (xs ys : List (List ℕ)) → AreApart xs → ((x : List ℕ) → IsIn x xs → (y : List ℕ) × IsIn y ys × (ends_with y x ≡ true)) → length (ended xs) ≤ length (ended ys)
ended_longer [] ys apart each = omega arith
ended_longer (x ∷ xs) ys apart each =
    let found = each x (inl refl) in
    let split = first_of (bytes_eq found.0) ys (among_in ys found.0 found.1) in
    let whole = split.whole ∙ ap (λ y. split.before ++ y ∷ split.after) (sym (same_text found.0 split.found (sym split.passes))) in
    let tail : length (ended xs) ≤ length (ended (split.before ++ split.after)) = ended_longer xs (split.before ++ split.after) apart.1 (λ other h.
    let more = each other (inr h) in
    (more.0, in_tail split.before split.after found.0 more.0 (subst (IsIn more.0) whole more.1) (λ same. apart.0 other found.0 h found.2 (ap (λ t. ends_with t other) same ∙ more.2)), more.2)) in
    let longer = ends_length found.0 x found.2 in
    let all = ap (λ l. length (ended l)) whole in
    let parts = ap length (ended-append split.before (found.0 ∷ split.after)) in
    let others = ap length (ended-append split.before split.after) in
    omega (arith, tail, longer, all, parts, others, length-append x (0 ∷ ended xs), length-append (ended split.before) (ended (found.0 ∷ split.after)), length-append (ended split.before) (ended split.after), length-append found.0 (0 ∷ ended split.after))

text_heap-longer : (xs ys : List (List ℕ)) → length (ended xs) ≤ length (ended ys) → length (text_heap xs) ≤ length (text_heap ys)
text_heap-longer [] ys h = omega arith
text_heap-longer (x ∷ xs) [] h = absurd (omega (arith, h, length-append x (0 ∷ ended xs)))
text_heap-longer (x ∷ xs) (y ∷ ys) h = omega (arith, h)

pub texts_grow : (used more : List (List ℕ)) → length (text_heap (holders used)) ≤ length (text_heap (holders (used ++ more)))
texts_grow used more = text_heap-longer (holders used) (holders (used ++ more))
    (ended_longer (holders used) (holders (used ++ more)) (apart_from used ([] ∷ []) used (λ x h. h)) (λ x h.
    let left = left_in (is_holder used) x (distinct used) h in
    let first = first_is ([] ∷ []) used x left.0 in
    let there = in_from_contains (used ++ more) x (Contains-append_left used more x (contains_from_in used x first.0)) in
    let found = any_in (λ entry. ends_with entry x) (holders (used ++ more)) (held (used ++ more) x there (some x first.1)) in
    (found.0, found.1, found.2)))
  where
    some : (x : List ℕ) → is_among ([] ∷ []) x ≡ false → 0 < length x
    some [] h = absurd (true≢false h)
    some (b ∷ bs) h = omega arith
