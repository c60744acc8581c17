-- The offset of a GUID in its heap.
use Rattle.heaps.proofs.Prelude.{◌≡◌, ℕ, ◌+◌, ◌*◌, ◌^◌, ◌<◌, ◌≤◌, Bool, true, false, not, true≢false, ◌↔◌, IsTrue, nat_eq, All, List, [], ◌∷◌, ◌++◌, length, refl, sym, arith, ⊎_elim, length-append, subst, All-push, All-head, All-tail, cases_Bool, cases_lt, pointwise, is_among, pooled, guid_heap, pooled_there, pooled_new}
use Rattle.indexmap.specs.IndexSet.{insert_key}
use Rattle.heap_pools.proofs.FoundLemmas.{length-guid_heap}

-- the heap with a GUID is longer than 2^30 bytes if and only if the GUID is new and there are 2^26 already
pub fits_there : (guids : List (List ℕ)) (guid : List ℕ) → All (λ g. length g ≡ 16) guids → length guids ≤ 2 ^ 26 → is_among guids guid ≡ true → length (guid_heap (pooled guids guid)) ≤ 2 ^ 30
fits_there guids guid h few there = rw (pooled_there guids guid there) (omega (arith, length-guid_heap guids h))

pub long_new : (guids : List (List ℕ)) (guid : List ℕ) → All (λ g. length g ≡ 16) guids → length guid ≡ 16 → is_among guids guid ≡ false → length (guid_heap (pooled guids guid)) ≡ 16 * length guids + 16
long_new guids guid h sixteen new =
    rw (pooled_new guids guid (omega arith) new) (omega (arith, length-guid_heap (guids ++ guid ∷ []) (All-push (λ g. length g ≡ 16) guids guid h sixteen), length-append guids (guid ∷ [])))

module _ (guids : List (List ℕ)) (guid : List ℕ) (h : All (λ g. length g ≡ 16) guids) (few : length guids ≤ 2 ^ 26) (sixteen : length guid ≡ 16) where
  pub full_at_most : length guids ≡ 2 ^ 26 → (there : Bool) → there ≡ is_among guids guid → IsTrue (not there) ↔ (2 ^ 30 < length (guid_heap (pooled guids guid)))
  full_at_most most true is = (λ no_more. absurd (true≢false (sym no_more)), λ long. absurd (omega (arith, fits_there guids guid h few (sym is))))
  full_at_most most false is = (λ _. omega (arith, long_new guids guid h sixteen (sym is)), λ _. refl)

  -- with fewer entries there is room
  pub room_below : length guids < 2 ^ 26 → 2 ^ 30 < length (guid_heap (pooled guids guid)) → ⊥
  room_below less long = ⊎_elim
      (λ (e : is_among guids guid ≡ true). omega (arith, fits_there guids guid h few e))
      (λ (e : is_among guids guid ≡ false). omega (arith, long_new guids guid h sixteen e))
      (cases_Bool (is_among guids guid))

  -- adding a GUID when there is room keeps the two facts
  pub pooled_sixteen : All (λ g. length g ≡ 16) (pooled guids guid)
  pooled_sixteen = ⊎_elim
      (λ (e : is_among guids guid ≡ true). subst (All (λ g. length g ≡ 16)) (sym (pooled_there guids guid e)) h)
      (λ (e : is_among guids guid ≡ false). subst (All (λ g. length g ≡ 16)) (sym (pooled_new guids guid (omega arith) e)) (All-push (λ g. length g ≡ 16) guids guid h sixteen))
      (cases_Bool (is_among guids guid))

  pub pooled_fits : (2 ^ 30 < length (guid_heap (pooled guids guid)) → ⊥) → length (pooled guids guid) ≤ 2 ^ 26
  pooled_fits room = ⊎_elim
      (λ (lt : 2 ^ 30 < length (guid_heap (pooled guids guid))). absurd (room lt))
      (λ (le : length (guid_heap (pooled guids guid)) ≤ 2 ^ 30). omega (arith, length-guid_heap (pooled guids guid) pooled_sixteen))
      (cases_lt (2 ^ 30) (length (guid_heap (pooled guids guid))))

  -- the keys with the GUID, as the set returns them
  pub inserted_is : insert_key (pointwise nat_eq) guids guid ≡ pooled guids guid
  inserted_is = ⊎_elim
      (λ (e : is_among guids guid ≡ true). rw (pooled_there guids guid e, e) refl)
      (λ (e : is_among guids guid ≡ false). rw (pooled_new guids guid (omega arith) e, e) refl)
      (cases_Bool (is_among guids guid))

-- a heap within the limit has room for its own entries
pub fits_itself : (guids : List (List ℕ)) → All (λ g. length g ≡ 16) guids → length guids ≤ 2 ^ 26 → 2 ^ 30 < length (guid_heap guids) → ⊥
fits_itself guids h few long = omega (arith, length-guid_heap guids h)
