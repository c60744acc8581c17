-- Groups of starts, use by use; and the plan of the texts of the groups.
use Rattle.cell_numbering.proofs.Prelude.{◌≡◌, ℕ, ◌<◌, ◌≤◌, ◌-◌, nat_eq, Bool, true, false, true≢false, not, ◌&&◌, Contains, List, [], ◌∷◌, ◌++◌, length, filter, map, refl, sym, ap, subst, ◌∙◌, inl, inr, ⊎_elim, arith, slice_index, list_any, fun_ext, cases_lt, cond_both, drop_all, map_push, nil_from_length, get_or_append_left, get_or_push, length_push, length-map, get_or-map, All-push, All-nil, All-weaker, Contains-get_or, distinct, first_uses, is_among, pooled, heap_text, texts_at, holders, is_holder}
use Rattle.std.proofs.lemmas.Bool.Decides.{same_from_decides}
use Rattle.std.specs.Str.{bytes_eq}
use Rattle.std.specs.Cmp.Lexicographic.{pointwise}
use Rattle.heap_pools.specs.Ending.{ends_with}
use Rattle.heap_pools.proofs.GrowLemmas.{pooled_again}
use Rattle.heap_pools.proofs.MemberLemmas.{IsIn, any_in, in_any, in_distinct, distinct-push}
use Rattle.cell_numbering.specs.StartGroups.{AreStartGroups}
use Rattle.cell_numbering.proofs.BlobLemmas.{same_map, map_map}

module _ (groups of_use starts : List ℕ) (are : AreStartGroups groups of_use starts) where
  -- a new group
  pub new_start : (start : ℕ) → AreStartGroups (groups ++ start ∷ []) (of_use ++ length groups ∷ []) (starts ++ start ∷ [])
  new_start start =
      let next = groups ++ start ∷ [] in
      let long = length_push groups start in
      let last : length groups < length next = omega (arith, long) in
      record {
        low = All-push (λ group. group < length next) of_use (length groups)
            (All-weaker (λ (group : ℕ). group < length groups) (λ (group : ℕ). group < length next) (λ group low. omega (arith, low, long)) of_use are.low) last;
        each = map_push (slice_index next) of_use (length groups)
            ∙ ap (λ s. map (slice_index next) of_use ++ s ∷ []) (get_or_push groups start 0 (length groups) refl)
            ∙ ap (λ list. list ++ start ∷ []) (same_map (λ (group : ℕ). group < length groups) (slice_index next) (slice_index groups)
            (λ group low. get_or_append_left groups (start ∷ []) 0 group low) of_use are.low ∙ are.each);
        firsts = λ heap.
            let text = heap_text heap in
            ap distinct (map_push text groups start) ∙ distinct-push (map text groups) (text start) ∙ ap (λ list. pooled list (text start)) (are.firsts heap)
            ∙ sym (distinct-push (map text starts) (text start)) ∙ sym (ap distinct (map_push text starts start));
      }

  -- a group that is known
  pub known_start : (group start : ℕ) → group < length groups → slice_index groups group ≡ start
      → AreStartGroups groups (of_use ++ group ∷ []) (starts ++ start ∷ [])
  known_start group start low is = record {
    low = All-push (λ g. g < length groups) of_use group are.low low;
    each = map_push (slice_index groups) of_use group ∙ ap (λ s. map (slice_index groups) of_use ++ s ∷ []) is ∙ ap (λ list. list ++ start ∷ []) are.each;
    firsts = λ heap.
        let text = heap_text heap in
        let below : group < length (map text groups) = omega (arith, low, length-map groups text) in
        let there : Contains (map text groups) (text start) =
        subst (Contains (map text groups)) (get_or-map text groups group 0 [] low ∙ ap text is) (Contains-get_or (map text groups) group [] below) in
        sym (ap distinct (map_push text starts start) ∙ distinct-push (map text starts) (text start) ∙ ap (λ list. pooled list (text start)) (sym (are.firsts heap))
        ∙ pooled_again (map text groups) (text start) there);
  }

-- no uses
pub no_starts : (groups of_use starts : List ℕ) → groups ≡ [] → of_use ≡ [] → starts ≡ [] → AreStartGroups groups of_use starts
no_starts groups of_use starts none no_use no_start =
    let P : List ℕ → Type 0 = λ g. AreStartGroups g of_use starts in
    let Q : List ℕ → Type 0 = λ u. AreStartGroups [] u starts in
    let R : List ℕ → Type 0 = λ s. AreStartGroups [] [] s in
    let start : AreStartGroups [] [] [] = record { low = All-nil (λ (group : ℕ). group < 0); each = refl; firsts = λ heap. refl } in
    subst P (sym none) (subst Q (sym no_use) (subst R (sym no_start) start))

-- ---- the holders of the texts of the groups

-- a first use is one of the values
in_first : (before values : List (List ℕ)) (x : List ℕ) → IsIn x (first_uses before values) → IsIn x values
in_first before [] x h = absurd h
in_first before (value ∷ values) x h =
    let tail = first_uses (before ++ value ∷ []) values in
    let later : IsIn x tail → IsIn x (value ∷ values) = λ there. inr (in_first (before ++ value ∷ []) values x there) in
    cond_both (is_among before value) tail (value ∷ tail) (λ found. IsIn x found → IsIn x (value ∷ values)) (λ _. later) (λ _ there. ⊎_elim (λ (same : value ≡ x). inl same) later there) h

-- a test that the empty value fails is one of the distinct values
module _ (test : List ℕ → Bool) (none : test [] ≡ false) where
  any_then : (first second : List (List ℕ)) → distinct first ≡ distinct second → list_any test first ≡ true → list_any test second ≡ true
  any_then first second same is =
      let found = any_in test first is in
      let some : 0 < length found.0 = ⊎_elim (λ (lt : 0 < length found.0). lt)
      (λ (le : length found.0 ≤ 0). absurd (true≢false (sym found.2 ∙ ap test (nil_from_length found.0 (omega arith)) ∙ none)))
      (cases_lt 0 (length found.0)) in
      in_any test found.0 second (in_first ([] ∷ []) second found.0 (subst (IsIn found.0) same (in_distinct first found.0 found.1 some))) found.2

  any_same : (first second : List (List ℕ)) → distinct first ≡ distinct second → list_any test first ≡ list_any test second
  any_same first second same =
      same_from_decides (list_any test first) (list_any test second) (any_then first second same, any_then second first (sym same)) ((λ is. is), (λ is. is))

-- the empty text does not end with another
empty_ends : (text : List ℕ) → (ends_with [] text && not (bytes_eq [] text)) ≡ false
unfolding ends_with
empty_ends [] = refl
empty_ends (byte ∷ bytes) =
    ap (λ (tail : List ℕ). pointwise nat_eq (byte ∷ bytes) tail && not (bytes_eq [] (byte ∷ bytes))) (drop_all (0 - length (byte ∷ bytes)) [] (omega arith))

same_holder : (first second : List (List ℕ)) → distinct first ≡ distinct second → (text : List ℕ) → is_holder first text ≡ is_holder second text
unfolding is_holder
same_holder first second same text =
    let test : List ℕ → Bool = λ other. ends_with other text && not (bytes_eq other text) in
    ap not (any_same test (empty_ends text) first second same)

pub same_holders : (first second : List (List ℕ)) → distinct first ≡ distinct second → holders first ≡ holders second
same_holders first second same =
    ap (λ test. filter test (distinct first)) (fun_ext (same_holder first second same)) ∙ ap (filter (is_holder second)) same

-- the indexes of the uses, from those of the groups
pub text_indexes_are : (index : List ℕ → ℕ) (heap groups of_use starts : List ℕ) → AreStartGroups groups of_use starts
    → map (slice_index (map index (texts_at heap groups))) of_use ≡ map index (texts_at heap starts)
text_indexes_are index heap groups of_use starts are =
    let text = heap_text heap in
    same_map (λ (group : ℕ). group < length groups) (slice_index (map index (map text groups))) (λ group. index (text (slice_index groups group)))
    (λ group low.
    let below : group < length (map text groups) = omega (arith, low, length-map groups text) in
    get_or-map index (map text groups) group [] 0 below ∙ ap index (get_or-map text groups group 0 [] low)) of_use are.low
    ∙ map_map index (λ group. text (slice_index groups group)) of_use
    ∙ ap (map index) (map_map text (slice_index groups) of_use ∙ ap (map text) are.each)
