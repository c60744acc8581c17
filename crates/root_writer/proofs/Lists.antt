-- Items of lists: membership, and properties of all items from an index on.
use Rattle.root_writer.proofs.Prelude.{◌≡◌, ℕ, zero, suc, ◌+◌, ◌<◌, ◌≤◌, Bool, List, [], ◌∷◌, ◌++◌, length, get_or, filter, refl, sym, subst, not, inl, inr, arith, Contains, All-from_recursion, flat_map, recursion_from_All, AllByRecursion, AreFrom}
use Rattle.heap_pools.proofs.MemberLemmas.{IsIn, in_from_contains, contains_from_in}
use Rattle.std.proofs.lemmas.List.Elements.{All-append, All-contains, All-contains_itself, All-filter, Contains-append_left, Contains-append_right, Contains-get_or}
use Rattle.std.proofs.lemmas.List.Filters.{length-filter_both}

-- ---- membership

pub in_get_or : {X : Type 0} (xs : List X) (k : ℕ) (d : X) → k < length xs → IsIn (get_or xs k d) xs
in_get_or xs k d below = in_from_contains xs (get_or xs k d) (Contains-get_or xs k d below)

in_left : {X : Type 0} (x : X) (xs ys : List X) → IsIn x xs → IsIn x (xs ++ ys)
in_left x xs ys h = in_from_contains (xs ++ ys) x (Contains-append_left xs ys x (contains_from_in xs x h))

in_right : {X : Type 0} (x : X) (xs ys : List X) → IsIn x ys → IsIn x (xs ++ ys)
in_right x xs ys h = in_from_contains (xs ++ ys) x (Contains-append_right xs ys x (contains_from_in ys x h))

in_flat_map : {X Y : Type 0} (f : X → List Y) (x : X) (y : Y) (xs : List X) → IsIn x xs → IsIn y (f x) → IsIn y (flat_map f xs)
in_flat_map f x y [] h k = absurd h
in_flat_map f x y (z ∷ zs) (inl e) k = in_left y (f z) (flat_map f zs) (subst (λ w. IsIn y (f w)) (sym e) k)
in_flat_map f x y (z ∷ zs) (inr h) k = in_right y (f z) (flat_map f zs) (in_flat_map f x y zs h k)

pub in_three : {X Y : Type 0} (f : X → List Y) (x : X) (y : Y) (xs : List X) (xss : List (List X)) (all : List (List (List X)))
    → IsIn xss all → IsIn xs xss → IsIn x xs → IsIn y (f x) → IsIn y (flat_map (flat_map (flat_map f)) all)
in_three f x y xs xss all a b c h =
    in_flat_map (flat_map (flat_map f)) xss y all a (in_flat_map (flat_map f) xs y xss b (in_flat_map f x y xs c h))

-- ---- what holds of each value of a flat map

and_append : {Y : Type 0} (P : Y → Type 0) (xs ys : List Y) → AllByRecursion P xs → AllByRecursion P ys → AllByRecursion P (xs ++ ys)
and_append P xs ys a b = recursion_from_All P (xs ++ ys) (All-append P xs ys (All-from_recursion P xs a) (All-from_recursion P ys b))

pub all_flat_map : {X Y : Type 0} (P : Y → Type 0) (Q : X → Type 0) (f : X → List Y) → ((x : X) → Q x → AllByRecursion P (f x)) → (xs : List X)
    → AllByRecursion Q xs → AllByRecursion P (flat_map f xs)
all_flat_map P Q f each [] all = tt
all_flat_map P Q f each (x ∷ xs) all = and_append P (f x) (flat_map f xs) (each x all.0) (all_flat_map P Q f each xs all.1)

pub all_from : {X : Type 0} (P : ℕ → X → Type 0) (Q : X → Type 0) → ((i : ℕ) (x : X) → P i x → Q x) → (i n : ℕ) (xs : List X) → AreFrom P i n xs
    → AllByRecursion Q xs
all_from P Q each i zero [] are = tt
all_from P Q each i zero (x ∷ xs) are = absurd are
all_from P Q each i (suc n) [] are = absurd are
all_from P Q each i (suc n) (x ∷ xs) are = (each i x are.0, all_from P Q each (i + 1) n xs are.1)

-- ---- items from an index on

pub are_from : {X : Type 0} (P : ℕ → X → Type 0) (i n : ℕ) (xs : List X) (d : X) → length xs ≡ n → ((k j : ℕ) → k < n → j ≡ i + k → P j (get_or xs k d))
    → AreFrom P i n xs
are_from P i zero [] d long each = tt
are_from P i zero (x ∷ xs) d long each = absurd (omega arith)
are_from P i (suc n) [] d long each = absurd (omega arith)
are_from P i (suc n) (x ∷ xs) d long each =
    (each 0 i (omega arith) (omega arith), are_from P (i + 1) n xs d (omega arith) (λ k j below e. each (suc k) j (omega arith) (omega arith)))

-- ---- filters

pub from_filter : {X : Type 0} (test : X → Bool) (x : X) (xs : List X) → IsIn x (filter test xs) → IsIn x xs
from_filter test x xs h =
    in_from_contains xs x (All-contains (Contains xs) (filter test xs) x (All-filter test (Contains xs) xs (All-contains_itself xs)) (contains_from_in (filter test xs) x h))

pub length-filter_le : {X : Type 0} (test : X → Bool) (xs : List X) → length (filter test xs) ≤ length xs
length-filter_le test xs = omega (arith, length-filter_both test (λ x. not (test x)) (λ x. refl) xs)
