-- A loop that writes one element after another.
use Rattle.clim_c.proofs.Prelude.{◌≡◌, ℕ, ◌+◌, ◌≤◌, ◌<◌, List, [], ◌∷◌, ◌++◌, length, take, get_or, set, append_assoc, sym, ◌∙◌, ap, subst, arith, SameFrom, append-nil, length-take-le, take_all, take_at, take_more_set, get_or-set_same, get_or-set_other}
use borrow.Author.Count.{below_more}

module _ {X : Type 0} where
  -- the first elements are right, and one more is written
  pub one_more : (P : ℕ → X → Type 0) (xs : List X) (k : ℕ) (x : X) → k < length xs → P k x → ((j : ℕ) (d : X) → j < k → P j (get_or xs j d))
      → (j : ℕ) (d : X) → j < k + 1 → P j (get_or (set xs k x) j d)
  one_more P xs k x within here before j d below = below_more (λ i. P i (get_or (set xs k x) i d)) k
      (λ i low. subst (P i) (sym (get_or-set_other xs k i x d (λ e. omega (arith, low, e)))) (before i d low))
      (subst (P k) (sym (get_or-set_same xs k x d within)) here) j below

  -- the elements after it do not change
  pub tail_stays : (old xs : List X) (k : ℕ) (x : X) → SameFrom old xs k → SameFrom old (set xs k x) (k + 1)
  tail_stays old xs k x same = λ j d past.
      get_or-set_other xs k j x d (λ e. omega (arith, past, e)) ∙ same j d (omega (arith, past))

  -- the items of a list are written in order: one more of them, all of them, or only those for which there is room
  pub next_left : (all xs left tail : List X) (k : ℕ) (x : X) → all ≡ take k xs ++ left → left ≡ x ∷ tail → k < length xs
      → all ≡ take (k + 1) (set xs k x) ++ tail
  next_left all xs left tail k x is first within =
      is ∙ ap (λ (l : List X). take k xs ++ l) first ∙ sym (append_assoc (take k xs) (x ∷ []) tail)
      ∙ sym (ap (λ (l : List X). l ++ tail) (take_more_set xs k x within))

  pub all_left : (all xs left : List X) (k room : ℕ) → all ≡ take k xs ++ left → left ≡ [] → k ≤ length xs → length xs ≡ room
      → take k xs ≡ take room all
  all_left all xs left k room is none within long =
      let whole : all ≡ take k xs = is ∙ ap (λ (l : List X). take k xs ++ l) none ∙ append-nil (take k xs) in
      let short = length-take-le k xs within in
      sym (take_all room (take k xs) (omega (arith, short, within, long))) ∙ sym (ap (λ (l : List X). take room l) whole)

  pub room_left : (all xs left : List X) (k room : ℕ) → all ≡ take k xs ++ left → k ≡ length xs → length xs ≡ room
      → take k xs ≡ take room all
  room_left all xs left k room is full long =
      let short = length-take-le k xs (omega (arith, full)) in
      sym (take_at (take k xs) left room (omega (arith, short, full, long))) ∙ sym (ap (λ (l : List X). take room l) is)
