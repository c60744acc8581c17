-- A pooled value is found again at its index in the heap.
use Rattle.std.proofs.Common.{◌≡◌, ℕ, zero, suc, ◌+◌, ◌*◌, ◌^◌, ◌<◌, ◌≤◌, true, false, not, ◌&&◌, true≢false, List, [], ◌∷◌, ◌++◌, length, flat_map, All, Contains, IsUtf8, Some, refl, sym, ap, subst, ◌∙◌, ◌⊎◌, inl, inr, ⊎_elim, arith, length-append, append_assoc, nat_lt}
use Rattle.std.proofs.lemmas.List.Concat.{flat_map-append}
use Rattle.heap_pools.proofs.Prelude.{list_any, position_or_len, bytes_eq, same_text, and_parts, cases_Bool, cases_lt, not-false, not-true, nat_tests, nat_list_eq_equiv, All-head, All-tail, All-take, take, take_at, is_among, distinct, ends_with, HasNoNul, IsText, IsBlob, IsGuid, ended, is_holder, holders, text_from, text_heap, text_index}
use Rattle.packed.specs.Packed.{IsPacked, short_unsigned}
use Rattle.heap_pools.specs.BlobHeap.{counted, blob_heap, blob_from, blob_index}
use Rattle.heap_pools.specs.GuidHeap.{guid_heap, guid_index}
use Rattle.heap_pools.proofs.EndingLemmas.{ends_parts, ends_from}
use Rattle.heap_pools.proofs.GrowLemmas.{blob_from-entry, position-entry}
use Rattle.heap_pools.proofs.HeapLemmas.{entry_parts, heap_is}
use Rattle.heap_pools.proofs.MemberLemmas.{IsIn, in_any, any_in, first_of, in_filter, in_distinct, among_in, in_from_contains}
use Rattle.heap_pools.proofs.PlanLemmas.{text_from-entry}
use Rattle.heap_pools.proofs.RunLemmas.{ends_trans}

-- texts

ends_longer : (u t : List ℕ) → ends_with u t ≡ true → bytes_eq u t ≡ false → length t < length u
ends_longer u t ends other =
    let parts = ends_parts u t ends in
    longer parts.0 parts.1
  where
    longer : (prefix : List ℕ) → u ≡ prefix ++ t → length t < length u
    longer [] e = absurd (true≢false (sym (nat_list_eq_equiv.refl u) ∙ ap (bytes_eq u) e ∙ other))
    longer (b ∷ bs) e = omega (arith, ap length e, length-append (b ∷ bs) t)

abbrev total : List (List ℕ) → ℕ
total [] = 0
total (x ∷ xs) = length x + total xs

no_longer : (x : List ℕ) (xs : List (List ℕ)) → IsIn x xs → length x ≤ total xs
no_longer x [] h = absurd h
no_longer x (z ∷ zs) (inl e) = omega (arith, ap length e)
no_longer x (z ∷ zs) (inr h) = omega (arith, no_longer x zs h)

record HasHolder (used : List (List ℕ)) (text : List ℕ) : Type 0 where
  holder : List ℕ
  within : IsIn holder used
  is : is_holder used holder ≡ true
  ends : ends_with holder text ≡ true

other_longer : (used : List (List ℕ)) (text : List ℕ) → is_holder used text ≡ false → (other : List ℕ) × IsIn other used × (ends_with other text ≡ true) × (length text < length other)
unfolding is_holder
other_longer used text h =
    let some = any_in (λ other. ends_with other text && not (bytes_eq other text)) used (not-false _ h) in
    let both = and_parts _ _ some.2 in
    (some.0, some.1, both.0, ends_longer some.0 text both.0 (not-true _ both.1))

holder_within : (used : List (List ℕ)) (n : ℕ) (text : List ℕ) → IsIn text used → total used < length text + n → HasHolder used text
holder_within used zero text h room = absurd (omega (arith, no_longer text used h))
holder_within used (suc n) text h room = ⊎_elim
    (λ (e : is_holder used text ≡ true). record { holder = text; within = h; is = e; ends = ends_from text text [] refl })
    (λ (e : is_holder used text ≡ false).
    let other = other_longer used text e in
    let longer = other.3 in
    let more = holder_within used n other.0 other.1 (omega arith) in
    record { holder = more.holder; within = more.within; is = more.is; ends = ends_trans more.holder other.0 text more.ends other.2 })
    (cases_Bool (is_holder used text))

-- some holder ends with each used text
pub held : (used : List (List ℕ)) (text : List ℕ) → IsIn text used → 0 < length text → list_any (λ entry. ends_with entry text) (holders used) ≡ true
held used text h some =
    let found = holder_within used (suc (total used)) text h (omega arith) in
    let parts = ends_parts found.holder text found.ends in
    let long : 0 < length found.holder = omega (arith, ap length parts.1, length-append parts.0 text) in
    in_any (λ entry. ends_with entry text) found.holder (holders used) (in_filter (is_holder used) found.holder (distinct used) (in_distinct used found.holder found.within long) found.is) found.ends

-- bytes in a heap stay where they are before a tail
with_tail : (before middle after tail : List ℕ) → (before ++ (middle ++ after)) ++ tail ≡ before ++ (middle ++ (after ++ tail))
with_tail before middle after tail = append_assoc before (middle ++ after) tail ∙ ap (λ (l : List ℕ). before ++ l) (append_assoc middle after tail)

pub text_found : (used : List (List ℕ)) (text tail : List ℕ) → Contains used text → HasNoNul text → IsUtf8 text → IsText (text_heap (holders used) ++ tail) (text_index (holders used) text) text
text_found used [] tail h no_nul utf8 = inl (refl, refl)
text_found used (byte ∷ bytes) tail h no_nul utf8 =
    let text = byte ∷ bytes in
    let f = first_of (λ entry. ends_with entry text) (holders used) (held used text (in_from_contains used text h) (omega arith)) in
    let parts = ends_parts f.found text f.passes in
    let index = ap (λ l. text_from 1 l text) f.whole ∙ text_from-entry 1 f.before f.found f.after text f.none f.passes in
    let long = ap length parts.1 ∙ length-append parts.0 text in
    let both = length-append (0 ∷ ended f.before) parts.0 in
    inr (
      omega arith,
      record {
        before = (0 ∷ ended f.before) ++ parts.0;
        after = ended f.after ++ tail;
        whole = ap (λ (l : List ℕ). l ++ tail) (ap text_heap f.whole ∙ heap_is f.before f.found f.after ∙ entry_parts f.before f.found f.after parts.0 text parts.1) ∙ with_tail ((0 ∷ ended f.before) ++ parts.0) text (0 ∷ ended f.after) tail;
        at = omega arith;
        no_nul = no_nul;
      },
      utf8,
    )

-- blobs

pub short_packed : (n : ℕ) → n < 2 ^ 29 → IsPacked n (short_unsigned n)
short_packed n limit = ⊎_elim
    (λ (a : n < 2 ^ 7). let e : nat_lt n (2 ^ 7) ≡ true = grind (arith, nat_tests) in inl (a, rw e refl))
    (λ (a : 2 ^ 7 ≤ n). let e : nat_lt n (2 ^ 7) ≡ false = grind (arith, nat_tests) in ⊎_elim
    (λ (b : n < 2 ^ 14). let f : nat_lt n (2 ^ 14) ≡ true = grind (arith, nat_tests) in inr (inl (b, rw (e, f) refl)))
    (λ (b : 2 ^ 14 ≤ n). let f : nat_lt n (2 ^ 14) ≡ false = grind (arith, nat_tests) in inr (inr (limit, rw (e, f) refl)))
    (cases_lt n (2 ^ 14)))
    (cases_lt n (2 ^ 7))

blob_heap_is : (before : List (List ℕ)) (entry : List ℕ) (after : List (List ℕ)) → blob_heap (before ++ entry ∷ after) ≡ (0 ∷ flat_map counted before) ++ (counted entry ++ flat_map counted after)
blob_heap_is [] entry after = refl
blob_heap_is (first ∷ before) entry after = ap (λ (l : List ℕ). 0 ∷ l) (flat_map-append counted (first ∷ before) (entry ∷ after))

pub blob_found : (entries : List (List ℕ)) (blob tail : List ℕ) → (blob ≡ []) ⊎ Contains entries blob → length blob < 2 ^ 29 → IsBlob (blob_heap entries ++ tail) (blob_index entries blob) blob
unfolding counted
blob_found entries [] tail h short = inl (refl, refl)
blob_found entries (byte ∷ bytes) tail h short =
    let blob = byte ∷ bytes in
    let there : is_among entries blob ≡ true = ⊎_elim (λ (none : blob ≡ []). cc) (λ (is : Contains entries blob). among_in entries blob (in_from_contains entries blob is)) h in
    let f = first_of (bytes_eq blob) entries there in
    let index = ap (λ l. blob_from 1 l blob) f.whole ∙ blob_from-entry 1 f.before f.found f.after blob f.none f.passes in
    let before = 0 ∷ flat_map counted f.before in
    let remainder = flat_map counted f.after in
    inr (
      omega arith,
      record {
        before = before;
        count = short_unsigned (length blob);
        after = remainder ++ tail;
        whole = ap (λ (l : List ℕ). l ++ tail) (ap blob_heap f.whole ∙ blob_heap_is f.before f.found f.after
            ∙ ap (λ (l : List ℕ). before ++ (counted l ++ remainder)) (sym (same_text blob f.found (sym f.passes)))) ∙ with_tail before (counted blob) remainder tail
            ∙ ap (λ (l : List ℕ). before ++ l) (append_assoc (short_unsigned (length blob)) blob (remainder ++ tail));
        at = omega arith;
        counts = short_packed (length blob) short;
      },
    )

-- GUIDs

-- the length of a heap of GUIDs
pub length-guid_heap : (guids : List (List ℕ)) → All (λ guid. length guid ≡ 16) guids → length (guid_heap guids) ≡ 16 * length guids
length-guid_heap [] h = refl
length-guid_heap (guid ∷ guids) h =
    let tail = length-guid_heap guids (All-tail (λ g. length g ≡ 16) guid guids h) in
    omega (arith, tail, All-head (λ g. length g ≡ 16) guid guids h, length-append guid (guid_heap guids))

pub guid_found : (entries : List (List ℕ)) (guid tail : List ℕ) → Contains entries guid → All (λ g. length g ≡ 16) entries → IsGuid (guid_heap entries ++ tail) (guid_index entries (Some guid)) (Some guid)
guid_found entries guid tail h sixteen =
    let f = first_of (bytes_eq guid) entries (among_in entries guid (in_from_contains entries guid h)) in
    let index = ap (position_or_len (bytes_eq guid)) f.whole ∙ position-entry f.before f.found f.after guid f.none f.passes in
    let long = length-guid_heap f.before (subst (All (λ g. length g ≡ 16)) (ap (take (length f.before)) f.whole ∙ take_at f.before (f.found ∷ f.after) (length f.before) refl)
    (All-take (λ g. length g ≡ 16) (length f.before) entries sixteen)) in (
      omega arith,
      record {
        before = guid_heap f.before;
        after = guid_heap f.after ++ tail;
        whole = ap (λ (l : List ℕ). l ++ tail) (ap guid_heap f.whole ∙ flat_map-append (λ (g : List ℕ). g) f.before (f.found ∷ f.after)
            ∙ ap (λ (l : List ℕ). guid_heap f.before ++ (l ++ guid_heap f.after)) (sym (same_text guid f.found (sym f.passes)))) ∙ simp append_assoc;
        at = omega arith;
        long = subst (λ (g : List ℕ). length g ≡ 16) h.2 (sixteen h.0 guid h.1);
      },
    )
