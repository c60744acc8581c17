-- Growing pools: entries stay, and so do their offsets.
use Rattle.std.proofs.Common.{◌≡◌, ℕ, ◌+◌, ◌≤◌, Bool, true, false, cond, List, [], ◌∷◌, ◌++◌, length, flat_map, Contains, Some, ◌⊎◌, inl, inr, refl, sym, ap, ◌∙◌, arith, append_assoc, length-append}
use Rattle.heap_pools.proofs.Prelude.{position_or_len, bytes_eq, or_parts, append-nil, is_among, first_uses, distinct, pooled}
use Rattle.std.proofs.lemmas.List.Concat.{flat_map-append}
use Rattle.heap_pools.specs.BlobHeap.{blob_from, blob_heap, blob_index, counted}
use Rattle.heap_pools.specs.GuidHeap.{guid_heap, guid_index}
use Rattle.heap_pools.proofs.DistinctLemmas.{pooled_there}
use Rattle.heap_pools.proofs.MemberLemmas.{among_in, first_of, in_distinct, in_from_contains}

-- the first uses of more values are appended
first_uses-append : (before used more : List (List ℕ)) → first_uses before (used ++ more) ≡ first_uses before used ++ first_uses (before ++ used) more
first_uses-append before [] more = ap (λ (l : List (List ℕ)). first_uses l more) (sym (append-nil before))
first_uses-append before (value ∷ values) more =
    let next = first_uses-append (before ++ value ∷ []) values more ∙ ap (λ (l : List (List ℕ)). first_uses (before ++ value ∷ []) values ++ first_uses l more) (append_assoc before (value ∷ []) values) in
    ap (λ (l : List (List ℕ)). cond (is_among before value) l (value ∷ l)) next
    ∙ both (is_among before value) value (first_uses (before ++ value ∷ []) values) (first_uses (before ++ value ∷ values) more)
  where
    both : (b : Bool) (value : List ℕ) (tail behind : List (List ℕ)) → cond b (tail ++ behind) (value ∷ (tail ++ behind)) ≡ cond b tail (value ∷ tail) ++ behind
    both true value tail behind = refl
    both false value tail behind = refl

pub distinct-append : (used more : List (List ℕ)) → (tail : List (List ℕ)) × (distinct (used ++ more) ≡ distinct used ++ tail)
distinct-append used more = (first_uses (([] ∷ []) ++ used) more, first_uses-append ([] ∷ []) used more)

-- a value that was used adds nothing
pub pooled_again : (used : List (List ℕ)) (value : List ℕ) → Contains used value → pooled (distinct used) value ≡ distinct used
pooled_again used [] there = refl
pooled_again used (byte ∷ bytes) there =
    let value = byte ∷ bytes in
    pooled_there (distinct used) value (among_in (distinct used) value (in_distinct used value (in_from_contains used value there) (omega arith)))

-- the index of an entry depends only on the entries before it
pub blob_from-entry : (at : ℕ) (before : List (List ℕ)) (entry : List ℕ) (after : List (List ℕ)) (blob : List ℕ) → is_among before blob ≡ false → bytes_eq blob entry ≡ true → blob_from at (before ++ entry ∷ after) blob ≡ at + length (flat_map counted before)
blob_from-entry at [] entry after blob none is = rw is (omega arith)
blob_from-entry at (first ∷ before) entry after blob none is =
    let apart = or_parts (bytes_eq blob first) (is_among before blob) none in
    rw apart.0 (blob_from-entry (at + length (counted first)) before entry after blob apart.1 is ∙ omega (arith, length-append (counted first) (flat_map counted before)))

pub position-entry : (before : List (List ℕ)) (entry : List ℕ) (after : List (List ℕ)) (guid : List ℕ) → is_among before guid ≡ false → bytes_eq guid entry ≡ true → position_or_len (bytes_eq guid) (before ++ entry ∷ after) ≡ length before
position-entry [] entry after guid none is = rw is refl
position-entry (first ∷ before) entry after guid none is =
    let apart = or_parts (bytes_eq guid first) (is_among before guid) none in
    rw apart.0 (ap (λ n. 1 + n) (position-entry before entry after guid apart.1 is) ∙ omega arith)

-- so it stays
entry_stays : (index position : List (List ℕ) → ℕ) (value : List ℕ)
    → ((before : List (List ℕ)) (entry : List ℕ) (after : List (List ℕ)) → is_among before value ≡ false → bytes_eq value entry ≡ true → index (before ++ entry ∷ after) ≡ position before)
    → (entries more : List (List ℕ)) → Contains entries value → index (entries ++ more) ≡ index entries
entry_stays index position value at entries more there =
    let f = first_of (bytes_eq value) entries (among_in entries value (in_from_contains entries value there)) in
    ap index (ap (λ (l : List (List ℕ)). l ++ more) f.whole ∙ append_assoc f.before (f.found ∷ f.after) more) ∙ at f.before f.found (f.after ++ more) f.none f.passes
    ∙ sym (ap index f.whole ∙ at f.before f.found f.after f.none f.passes)

pub blob_index-append : (entries more : List (List ℕ)) (blob : List ℕ) → (blob ≡ []) ⊎ Contains entries blob → blob_index (entries ++ more) blob ≡ blob_index entries blob
blob_index-append entries more [] there = refl
blob_index-append entries more (byte ∷ bytes) (inl none) = cc
blob_index-append entries more (byte ∷ bytes) (inr there) =
    let blob = byte ∷ bytes in
    entry_stays (λ l. blob_from 1 l blob) (λ before. 1 + length (flat_map counted before)) blob (λ before entry after. blob_from-entry 1 before entry after blob) entries more there

pub guid_index-append : (entries more : List (List ℕ)) (guid : List ℕ) → Contains entries guid → guid_index (entries ++ more) (Some guid) ≡ guid_index entries (Some guid)
guid_index-append entries more guid there =
    ap (λ n. n + 1) (entry_stays (position_or_len (bytes_eq guid)) (λ before. length before) guid (λ before entry after. position-entry before entry after guid) entries more there)

-- heaps with more entries
blob_heap-longer : (entries more : List (List ℕ)) → length (blob_heap entries) ≤ length (blob_heap (entries ++ more))
blob_heap-longer [] more = omega arith
blob_heap-longer (entry ∷ entries) more =
    let parts = ap length (flat_map-append counted (entry ∷ entries) more) in
    omega (arith, parts, length-append (flat_map counted (entry ∷ entries)) (flat_map counted more))

pub blobs_grow : (used more : List (List ℕ)) → length (blob_heap (distinct used)) ≤ length (blob_heap (distinct (used ++ more)))
blobs_grow used more =
    let parts = distinct-append used more in
    let same = ap (λ (l : List (List ℕ)). length (blob_heap l)) parts.1 in
    omega (arith, same, blob_heap-longer (distinct used) parts.0)

pub guids_grow : (used more : List (List ℕ)) → length (guid_heap (distinct used)) ≤ length (guid_heap (distinct (used ++ more)))
guids_grow used more =
    let parts = distinct-append used more in
    let same = ap (λ (l : List (List ℕ)). length (guid_heap l)) parts.1 in
    let both = ap length (flat_map-append (λ (guid : List ℕ). guid) (distinct used) parts.0) in
    omega (arith, same, both, length-append (guid_heap (distinct used)) (guid_heap parts.0))
