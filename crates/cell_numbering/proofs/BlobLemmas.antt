-- Uses that refer to kept ones, use by use.
use Rattle.cell_numbering.proofs.Prelude.{◌≡◌, ℕ, ◌<◌, ◌^◌, All, Contains, List, [], ◌∷◌, ◌++◌, length, map, refl, sym, ap, subst, ◌∙◌, arith, slice_index, map_push, get_or_append_left, get_or_push, length_push, get_or-map, All-push, All-nil, All-weaker, All-head, All-tail, Contains-get_or, pooled}
use Rattle.heap_pools.proofs.GrowLemmas.{pooled_again}
use Rattle.heap_pools.proofs.MemberLemmas.{distinct-push}
use Rattle.cell_numbering.specs.BlobUses.{ReferTo, kept_blob}

pub same_map : {X Y : Type 0} (P : X → Type 0) (f g : X → Y) → ((x : X) → P x → f x ≡ g x) → (xs : List X) → All P xs → map f xs ≡ map g xs
same_map P f g same [] all = refl
same_map P f g same (x ∷ xs) all =
    ap (λ y. y ∷ map f xs) (same x (All-head P x xs all)) ∙ ap (λ ys. g x ∷ ys) (same_map P f g same xs (All-tail P x xs all))

pub map_map : {X Y Z : Type 0} (f : Y → Z) (g : X → Y) (xs : List X) → map (λ x. f (g x)) xs ≡ map f (map g xs)
map_map f g [] = refl
map_map f g (x ∷ xs) = ap (λ list. f (g x) ∷ list) (map_map f g xs)

module _ (kept : List (List ℕ)) (of_use : List ℕ) (blobs : List (List ℕ)) (are : ReferTo kept of_use blobs) where
  -- one more that is kept
  pub kept_use : (blob : List ℕ) → length blob < 2 ^ 29 → ReferTo (kept ++ blob ∷ []) (of_use ++ length kept ∷ []) (blobs ++ blob ∷ [])
  kept_use blob short =
      let next = kept ++ blob ∷ [] in
      let long = length_push kept blob in
      let last : length kept < length next = omega (arith, long) in
      record {
        low = All-push (λ use_index. use_index < length next) of_use (length kept)
            (All-weaker (λ (use_index : ℕ). use_index < length kept) (λ (use_index : ℕ). use_index < length next) (λ use_index low. omega (arith, low, long)) of_use are.low) last;
        each = map_push (kept_blob next) of_use (length kept)
            ∙ ap (λ b. map (kept_blob next) of_use ++ b ∷ []) (get_or_push kept blob [] (length kept) refl)
            ∙ ap (λ list. list ++ blob ∷ []) (same_map (λ (use_index : ℕ). use_index < length kept) (kept_blob next) (kept_blob kept)
            (λ use_index low. get_or_append_left kept (blob ∷ []) [] use_index low) of_use are.low ∙ are.each);
        short = All-push (λ b. length b < 2 ^ 29) kept blob are.short short;
        firsts = distinct-push kept blob ∙ ap (λ list. pooled list blob) are.firsts ∙ sym (distinct-push blobs blob);
      }

  -- a use of one that is kept
  pub known_use : (use_index : ℕ) (blob : List ℕ) → use_index < length kept → kept_blob kept use_index ≡ blob → ReferTo kept (of_use ++ use_index ∷ []) (blobs ++ blob ∷ [])
  known_use use_index blob low has =
      let there : Contains kept blob = subst (Contains kept) has (Contains-get_or kept use_index [] low) in
      record {
        low = All-push (λ g. g < length kept) of_use use_index are.low low;
        each = map_push (kept_blob kept) of_use use_index ∙ ap (λ b. map (kept_blob kept) of_use ++ b ∷ []) has ∙ ap (λ list. list ++ blob ∷ []) are.each;
        short = are.short;
        firsts = sym (distinct-push blobs blob ∙ ap (λ list. pooled list blob) (sym are.firsts) ∙ pooled_again kept blob there);
      }

-- the indexes of the uses, from those of the kept ones
pub indexes_are : (index : List ℕ → ℕ) (kept : List (List ℕ)) (of_use : List ℕ) (blobs : List (List ℕ)) → ReferTo kept of_use blobs
    → map (slice_index (map index kept)) of_use ≡ map index blobs
indexes_are index kept of_use blobs are =
    same_map (λ (use_index : ℕ). use_index < length kept) (slice_index (map index kept)) (λ use_index. index (kept_blob kept use_index))
    (λ use_index low. get_or-map index kept use_index [] 0 low) of_use are.low
    ∙ map_map index (kept_blob kept) of_use ∙ ap (map index) are.each

-- no uses
pub no_kept : (kept : List (List ℕ)) (of_use : List ℕ) (blobs : List (List ℕ)) → kept ≡ [] → of_use ≡ [] → blobs ≡ [] → ReferTo kept of_use blobs
no_kept kept of_use blobs none no_use no_blob =
    let P : List (List ℕ) → Type 0 = λ g. ReferTo g of_use blobs in
    let Q : List ℕ → Type 0 = λ u. ReferTo [] u blobs in
    let R : List (List ℕ) → Type 0 = λ b. ReferTo [] [] b in
    let start : ReferTo [] [] [] = record { low = All-nil (λ (use_index : ℕ). use_index < 0); each = refl; short = All-nil (λ (blob : List ℕ). length blob < 2 ^ 29); firsts = refl } in
    subst P (sym none) (subst Q (sym no_use) (subst R (sym no_blob) start))
