-- The items that are written so far.
use Rattle.std.proofs.Common.{◌≡◌, ◌∙◌, ℕ, ◌+◌, ◌≤◌, ◌<◌, List, [], ◌∷◌, ◌++◌, append_assoc, length, take, set, map, sym, ap, subst, arith, length-append}
use Rattle.std.specs.List.{SameFrom}
use Rattle.std.proofs.lemmas.List.{append-nil, get_or-set_other, length-set, map-append, take-append-le, take_all, take_more_set}

-- a loop writes the items of a list into the elements of another, up to its length
module _ {I X F : Type 0} (shown : I → F) (fields : X → F) where
  -- the items so far are written, and the other elements are unchanged; these items are left
  abbrev pub AreWritten : (all : List I) (before : List X) (left : List I) (xs : List X) (count : ℕ) → Type 0
  AreWritten all before left xs count =
      (done : List I)
      × (all ≡ done ++ left)
      × (count ≡ length done)
      × (map fields (take count xs) ≡ map shown (take (length xs) done))
      × SameFrom before xs count
      × (length xs ≡ length before)

  next_done : (all done left tail : List I) (i : I) → all ≡ done ++ left → left ≡ i ∷ tail → all ≡ (done ++ i ∷ []) ++ tail
  next_done all done left tail i is next = is ∙ ap (λ (l : List I). done ++ l) next ∙ sym (append_assoc done (i ∷ []) tail)

  pub one_more : (all : List I) (before : List X) (left tail : List I) (xs : List X) (count : ℕ) (i : I) (x : X) → left ≡ i ∷ tail → fields x ≡ shown i
      → count < length xs → AreWritten all before left xs count → AreWritten all before tail (set xs count x) (count + 1)
  one_more all before left tail xs count i x next is within (done, all_is, counted, first, same, long) =
      let longer = length-append done (i ∷ []) in
      let same_long = length-set xs count x in
      let new = ap (map fields) (take_more_set xs count x within) ∙ map-append fields (take count xs) (x ∷ []) in
      let old = first ∙ ap (map shown) (take_all (length xs) done (omega (arith, within, counted))) in
      let both = ap (map shown) (take_all (length (set xs count x)) (done ++ i ∷ []) (omega (arith, within, counted, longer, same_long))) ∙ map-append shown done (i ∷ []) in (
        done ++ i ∷ [],
        next_done all done left tail i all_is next,
        omega (arith, counted, longer),
        new ∙ ap (λ (l : List F). l ++ fields x ∷ []) old ∙ ap (λ y. map shown done ++ y ∷ []) is ∙ sym both,
        (λ j d past. get_or-set_other xs count j x d (λ e. omega (arith, past, e)) ∙ same j d (omega (arith, past))),
        same_long ∙ long,
      )

  pub past_room : (all : List I) (before : List X) (left tail : List I) (xs : List X) (count : ℕ) (i : I) → left ≡ i ∷ tail
      → length xs ≤ count → AreWritten all before left xs count → AreWritten all before tail xs (count + 1)
  past_room all before left tail xs count i next full (done, all_is, counted, first, same, long) =
      let longer = length-append done (i ∷ []) in
      let whole = take_all (count + 1) xs (omega (arith, full)) ∙ sym (take_all count xs full) in (
        done ++ i ∷ [],
        next_done all done left tail i all_is next,
        omega (arith, counted, longer),
        ap (map fields) whole ∙ first ∙ sym (ap (map shown) (take-append-le (length xs) done (i ∷ []) (omega (arith, full, counted)))),
        (λ j d past. same j d (omega (arith, past))),
        long,
      )

  -- all are written
  pub all_written : (all : List I) (before xs : List X) (count : ℕ) → AreWritten all before [] xs count
      → (count ≡ length all) × (map fields (take (length all) xs) ≡ map shown (take (length before) all)) × SameFrom before xs (length all)
  all_written all before xs count (done, all_is, counted, first, same, long) =
      let is : all ≡ done = all_is ∙ append-nil done in
      let every = counted ∙ ap length (sym is) in (
        every,
        ap (λ n. map fields (take n xs)) (sym every) ∙ first ∙ ap (λ n. map shown (take n done)) long ∙ ap (λ (l : List I). map shown (take (length before) l)) (sym is),
        subst (SameFrom before xs) every same,
      )
