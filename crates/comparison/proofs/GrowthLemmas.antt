-- Lists that grow up to a limit.
use Rattle.comparison.proofs.Prelude.{◌≡◌, ◌∙◌, ◌<◌, ◌≤◌, ℕ, zero, suc, ◌+◌, List, [], ◌∷◌, ◌++◌, length, take, get_or, refl, ap, sym, append_assoc, append-nil, arith, flat_map, range_with_len, take_all, take-append-le, take_more, flat_map_more, map-id, map-range_with_len_more}

module _ {X : Type 0} where
  pub take_again : (n : ℕ) (xs ys : List X) → take n (take n xs ++ ys) ≡ take n (xs ++ ys)
  take_again zero xs ys = refl
  take_again (suc n) [] ys = refl
  take_again (suc n) (x ∷ xs) ys = ap (λ zs. x ∷ zs) (take_again n xs ys)

  -- nothing more
  pub grows_nothing : (limit : ℕ) (xs : List X) → length xs ≤ limit → xs ≡ take limit (xs ++ [])
  grows_nothing limit xs few = sym (ap (λ ys. take limit ys) (append-nil xs) ∙ take_all limit xs few)

  -- no room for more
  pub grows_full : (limit : ℕ) (xs ys : List X) → length xs ≡ limit → xs ≡ take limit (xs ++ ys)
  grows_full limit xs ys full = sym (take-append-le limit xs ys (omega (arith, full)) ∙ take_all limit xs (omega (arith, full)))

  -- parts in turn
  pub grows_more : (limit : ℕ) (before between after more later : List X) → between ≡ take limit (before ++ more) → after ≡ take limit (between ++ later)
      → after ≡ take limit (before ++ (more ++ later))
  grows_more limit before between after more later first second =
      second ∙ ap (λ xs. take limit (xs ++ later)) first ∙ take_again limit (before ++ more) later ∙ ap (λ xs. take limit xs) (append_assoc before more later)

  pub number_more : (f : ℕ → List X) (a n m : ℕ) → a + n ≡ m → flat_map f (range_with_len a (n + 1)) ≡ flat_map f (range_with_len a n) ++ f m
  number_more f a n m is =
      ap (λ ks. flat_map f ks) (sym (map-id (range_with_len a (n + 1))) ∙ map-range_with_len_more (λ (k : ℕ). k) a n m is ∙ ap (λ ks. ks ++ m ∷ []) (map-id (range_with_len a n)))
      ∙ sym (flat_map_more f [] (range_with_len a n) m)

  pub item_more : {Y : Type 0} (f : Y → List X) (ys : List Y) (i : ℕ) (d : Y) → i < length ys → flat_map f (take (i + 1) ys) ≡ flat_map f (take i ys) ++ f (get_or ys i d)
  item_more f ys i d lt = ap (λ zs. flat_map f zs) (take_more ys i d lt) ∙ sym (flat_map_more f [] (take i ys) (get_or ys i d))
