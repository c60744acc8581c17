-- The offset of a blob in its heap.
use Rattle.heaps.proofs.Prelude.{◌≡◌, ℕ, ◌+◌, ◌<◌, max, true, false, ◌||◌, cond, true≢false, ◌↔◌, nat_eq, List, [], ◌∷◌, ◌++◌, length, map, flat_map, Vec, Option, Some, None, IfSome, IfNone, refl, sym, ap, ◌∙◌, ⊎_elim, arith, length-append, cases_Bool, nat_list_eq_equiv, append-nil, flat_map-append, pointwise, keys_of, values_of, lookup, bytes_eq, short_unsigned, blob_from, blob_heap, blob_index, counted, starts_from, is_among, pooled, begun, pooled_new}
use Rattle.heap_pools.proofs.GrowLemmas.{blob_from-entry}
use Rattle.heaps.proofs.BytesLemmas.{length-begun}

-- the heap with one more blob
pub blob_heap-push : (entries : List (List ℕ)) (blob : List ℕ) → blob_heap (entries ++ blob ∷ []) ≡ begun (blob_heap entries) ++ counted blob
blob_heap-push [] blob = ap (λ (l : List ℕ). 0 ∷ l) (append-nil (counted blob))
blob_heap-push (entry ∷ entries) blob =
    ap (λ (l : List ℕ). 0 ∷ l) (flat_map-append counted (entry ∷ entries) (blob ∷ []) ∙ ap (λ (l : List ℕ). flat_map counted (entry ∷ entries) ++ l) (append-nil (counted blob)))

pub length-counted : (blob : List ℕ) → length (counted blob) ≡ length (short_unsigned (length blob)) + length blob
unfolding counted
length-counted blob = length-append (short_unsigned (length blob)) blob

-- the offset after the entries, if the first begins at 1
pub begun_is : (entries : List (List ℕ)) → length (begun (blob_heap entries)) ≡ 1 + length (flat_map counted entries)
begun_is [] = refl
begun_is (entry ∷ entries) = omega arith

pub starts_from-push : (at : ℕ) (entries : List (List ℕ)) (blob : List ℕ) → starts_from at (entries ++ blob ∷ []) ≡ starts_from at entries ++ (at + length (flat_map counted entries)) ∷ []
starts_from-push at [] blob = ap (λ n. n ∷ []) (omega arith)
starts_from-push at (entry ∷ entries) blob =
    let sums : at + length (counted entry) + length (flat_map counted entries) ≡ at + length (flat_map counted (entry ∷ entries)) = omega (arith, length-append (counted entry) (flat_map counted entries)) in
    ap (λ (l : List ℕ). at ∷ l) (starts_from-push (at + length (counted entry)) entries blob ∙ ap (λ n. starts_from (at + length (counted entry)) entries ++ n ∷ []) sums)

module _ {A : Type 0} where
  -- the keys of a map as lists
  abbrev pub names_of : List (Vec ℕ A × ℕ) → List (List ℕ)
  names_of entries = map (λ (key : Vec ℕ A). key.items) (keys_of entries)

  -- what a lookup finds in a map of entry offsets
  pub lookup_there : (entries : List (Vec ℕ A × ℕ)) (at : ℕ) (blob : List ℕ) (start : ℕ) → values_of entries ≡ starts_from at (names_of entries) → lookup (λ (key : Vec ℕ A). pointwise nat_eq blob key.items) entries ≡ Some start
      → (is_among (names_of entries) blob ≡ true) × (start ≡ blob_from at (names_of entries) blob)
  lookup_there [] at blob start starts found = cc
  lookup_there (entry ∷ entries) at blob start starts found =
      let first : entry.1 ≡ at = cc in
      let others : values_of entries ≡ starts_from (at + length (counted entry.0.items)) (names_of entries) = cc in
      ⊎_elim
      (λ (e : bytes_eq blob entry.0.items ≡ true).
      let is : Some entry.1 ≡ Some start = sym (ap (λ b. cond b (Some entry.1) (lookup (λ (key : Vec ℕ A). pointwise nat_eq blob key.items) entries)) e) ∙ found in
      let same : start ≡ at = cc in
      (ap (λ b. b || is_among (names_of entries) blob) e, same ∙ sym (ap (λ b. cond b at (blob_from (at + length (counted entry.0.items)) (names_of entries) blob)) e)))
      (λ (e : bytes_eq blob entry.0.items ≡ false).
      let tail = lookup_there entries (at + length (counted entry.0.items)) blob start others (sym (ap (λ b. cond b (Some entry.1) (lookup (λ (key : Vec ℕ A). pointwise nat_eq blob key.items) entries)) e) ∙ found) in
      (ap (λ b. b || is_among (names_of entries) blob) e ∙ tail.0, tail.1 ∙ sym (ap (λ b. cond b at (blob_from (at + length (counted entry.0.items)) (names_of entries) blob)) e)))
      (cases_Bool (bytes_eq blob entry.0.items))

  pub lookup_new : (entries : List (Vec ℕ A × ℕ)) (blob : List ℕ) → (lookup (λ (key : Vec ℕ A). pointwise nat_eq blob key.items) entries ≡ None) ↔ (is_among (names_of entries) blob ≡ false)
  lookup_new [] blob = (λ _. refl, λ _. refl)
  lookup_new (entry ∷ entries) blob = ⊎_elim
      (λ (e : bytes_eq blob entry.0.items ≡ true). rw e (λ found. cc, λ new. cc))
      (λ (e : bytes_eq blob entry.0.items ≡ false). rw e (lookup_new entries blob))
      (cases_Bool (bytes_eq blob entry.0.items))

  -- the same for the result of the lookup
  pub found_there : (entries : List (Vec ℕ A × ℕ)) (blob : List ℕ) (o : Option ℕ) → values_of entries ≡ starts_from 1 (names_of entries) → o ≡ lookup (λ (key : Vec ℕ A). pointwise nat_eq blob key.items) entries
      → IfSome o (λ start. (is_among (names_of entries) blob ≡ true) × (start ≡ blob_from 1 (names_of entries) blob))
  found_there entries blob None starts is = tt
  found_there entries blob (Some start) starts is = lookup_there entries 1 blob start starts (sym is)

  pub found_new : (entries : List (Vec ℕ A × ℕ)) (blob : List ℕ) (o : Option ℕ) → o ≡ lookup (λ (key : Vec ℕ A). pointwise nat_eq blob key.items) entries → IfNone o (is_among (names_of entries) blob ≡ false)
  found_new entries blob None is = (lookup_new entries blob).0 (sym is)
  found_new entries blob (Some start) is = tt

  -- an entry that is appended
  pub names_of-push : (entries : List (Vec ℕ A × ℕ)) (key : Vec ℕ A) (start : ℕ) (blob : List ℕ) → key.items ≡ blob → names_of (entries ++ (key, start) ∷ []) ≡ names_of entries ++ blob ∷ []
  names_of-push [] key start blob is = ap (λ (l : List ℕ). l ∷ []) is
  names_of-push (entry ∷ entries) key start blob is = ap (λ (l : List (List ℕ)). entry.0.items ∷ l) (names_of-push entries key start blob is)

  pub values_of-push : (entries : List (Vec ℕ A × ℕ)) (key : Vec ℕ A) (start : ℕ) → values_of (entries ++ (key, start) ∷ []) ≡ values_of entries ++ start ∷ []
  values_of-push [] key start = refl
  values_of-push (entry ∷ entries) key start = ap (λ (l : List ℕ). entry.1 ∷ l) (values_of-push entries key start)

  pub starts-push : (entries : List (Vec ℕ A × ℕ)) (key : Vec ℕ A) (start : ℕ) (blob : List ℕ) → key.items ≡ blob → start ≡ length (begun (blob_heap (names_of entries))) → values_of entries ≡ starts_from 1 (names_of entries)
      → values_of (entries ++ (key, start) ∷ []) ≡ starts_from 1 (names_of (entries ++ (key, start) ∷ []))
  starts-push entries key start blob is at starts =
      values_of-push entries key start
      ∙ ap (λ (l : List ℕ). l ++ start ∷ []) starts
      ∙ ap (λ n. starts_from 1 (names_of entries) ++ n ∷ []) (at ∙ begun_is (names_of entries))
      ∙ sym (starts_from-push 1 (names_of entries) blob)
      ∙ ap (starts_from 1) (sym (names_of-push entries key start blob is))

-- the length of the heap with one more blob
pub length-push : (entries : List (List ℕ)) (blob : List ℕ) → length (blob_heap (entries ++ blob ∷ [])) ≡ max (length (blob_heap entries)) 1 + length (counted blob)
length-push entries blob = omega (arith, ap length (blob_heap-push entries blob), length-append (begun (blob_heap entries)) (counted blob), length-begun (blob_heap entries))

pub length-pooled : (entries : List (List ℕ)) (blob : List ℕ) → 0 < length blob → is_among entries blob ≡ false → length (blob_heap (pooled entries blob)) ≡ max (length (blob_heap entries)) 1 + length (counted blob)
length-pooled entries blob some new = ap (λ (l : List (List ℕ)). length (blob_heap l)) (pooled_new entries blob some new) ∙ length-push entries blob

-- the index of a blob that is appended
pub blob_index-push : (entries : List (List ℕ)) (blob : List ℕ) → 0 < length blob → is_among entries blob ≡ false → blob_index (entries ++ blob ∷ []) blob ≡ max (length (blob_heap entries)) 1
blob_index-push entries [] some new = absurd (omega arith)
blob_index-push entries (byte ∷ bytes) some new =
    blob_from-entry 1 entries (byte ∷ bytes) [] (byte ∷ bytes) new (nat_list_eq_equiv.refl (byte ∷ bytes)) ∙ sym (begun_is entries) ∙ length-begun (blob_heap entries)
