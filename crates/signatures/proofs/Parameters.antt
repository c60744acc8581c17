-- Parameters that are built one after another, with those before them, and the index of SENTINEL.
use Rattle.signatures.proofs.Prelude.{◌≡◌, ◌∙◌, ℕ, zero, suc, ◌+◌, ◌-◌, ◌<◌, ◌≤◌, ◌&&◌, Bool, true, false, cond, Option, Some, None, List, [], ◌∷◌, ◌++◌, length, drop, refl, sym, ap, ap₂, append_assoc, append-nil, length-append, arith, option_map, option_and_then, is_none, option_or, Reader, many_at, params_at, slot_at, head_is, SigError, Bad, Memory, Fails}
use Rattle.sig_grammar.specs.Syntax.{Core, Slot}
use Rattle.signatures.proofs.Items.{next_of}

abbrev Read : Type 0
Read = Option ((List Slot × Option ℕ) × List ℕ)

-- the number before SENTINEL, after a number of parameters that were read before
abbrev before_with : Option ℕ → ℕ → Option ℕ → Option ℕ
before_with (Some k) n s = Some k
before_with None n s = option_map (λ j. n + j) s

-- what is read, with the parameters before it
abbrev pub with_params : List Slot → Option ℕ → Read → Read
with_params head before read = option_map (λ x. ((head ++ x.0.0, before_with before (length head) x.0.1), x.1)) read

-- SENTINEL is allowed here: the method may have one, and none was read yet
abbrev pub still : Bool → Option ℕ → Bool
still allowed before = allowed && is_none before

-- the number of parameters before SENTINEL, once it was read, or not
abbrev pub after_mark : Option ℕ → Bool → ℕ → Option ℕ
after_mark before marked k = option_or before (cond marked (Some k) None)

head_marked : (k : ℕ) (xs : List Slot) (x : Slot) (o : Read) → length xs ≡ k → with_params xs None (option_map (λ y. ((x ∷ y.0.0, Some 0), y.1)) o) ≡ with_params (xs ++ x ∷ []) (Some k) o
head_marked k xs x None e = refl
head_marked k xs x (Some y) e =
    let n : length xs + 0 ≡ k = omega arith in
    ap₂ (λ (ys : List Slot) (m : ℕ). Some ((ys, Some m), y.1)) (sym (append_assoc xs (x ∷ []) y.0.0)) n

mark_later : (before : Option ℕ) (xs : List Slot) (x : Slot) (s : Option ℕ) → before_with before (length xs) (option_map suc s) ≡ before_with before (length (xs ++ x ∷ [])) s
mark_later (Some k) xs x s = refl
mark_later None xs x None = refl
mark_later None xs x (Some j) = ap (λ (m : ℕ). Some m) (omega (arith, length-append xs (x ∷ [])))

head_plain : (before : Option ℕ) (xs : List Slot) (x : Slot) (o : Read) → with_params xs before (option_map (λ y. ((x ∷ y.0.0, option_map suc y.0.1), y.1)) o) ≡ with_params (xs ++ x ∷ []) before o
head_plain before xs x None = refl
head_plain before xs x (Some y) =
    ap₂ (λ (ys : List Slot) (m : Option ℕ). Some ((ys, m), y.1)) (sym (append_assoc xs (x ∷ []) y.0.0)) (mark_later before xs x y.0.1)

module _ (nested : Reader Core) where
  abbrev marked_then : ℕ → Option (Slot × List ℕ) → Read
  marked_then n o = option_and_then (λ x. option_map (λ y. ((x.0 ∷ y.0.0, Some 0), y.1)) (params_at nested false n x.1)) o

  abbrev plain_then : Bool → ℕ → Option (Slot × List ℕ) → Read
  plain_then allowed n o = option_and_then (λ x. option_map (λ y. ((x.0 ∷ y.0.0, option_map suc y.0.1), y.1)) (params_at nested allowed n x.1)) o

  -- the parameters, from the first, with SENTINEL before it or not
  params_is : (allowed : Bool) (n : ℕ) (b : List ℕ) → params_at nested allowed (suc n) b ≡ cond (allowed && head_is 0x41 b) (marked_then n (slot_at nested (drop 1 b))) (plain_then allowed n (slot_at nested b))
  unfolding params_at
  params_is allowed n b = refl

  at_mark : (n k : ℕ) (allowed : Bool) (before : Option ℕ) (h m : Bool) (b s c : List ℕ) (xs : List Slot) (x : Slot) → length xs ≡ k → m ≡ (still allowed before && h) → s ≡ cond m (drop 1 b) b → slot_at nested s ≡ Some (x, c) → with_params xs before (cond (still allowed before && h) (marked_then n (slot_at nested (drop 1 b))) (plain_then (still allowed before) n (slot_at nested b))) ≡ with_params (xs ++ x ∷ []) (after_mark before m k) (params_at nested (still allowed (after_mark before m k)) n c)
  at_mark n k true None true true b s c xs x count is e read = rw (← e, read) (head_marked k xs x (params_at nested false n c) count)
  at_mark n k true None true false b s c xs x count is e read = absurd cc
  at_mark n k true None false true b s c xs x count is e read = absurd cc
  at_mark n k true None false false b s c xs x count is e read = rw (← e, read) (head_plain None xs x (params_at nested true n c))
  at_mark n k true (Some j) h true b s c xs x count is e read = absurd cc
  at_mark n k true (Some j) h false b s c xs x count is e read = rw (← e, read) (head_plain (Some j) xs x (params_at nested false n c))
  at_mark n k false before h true b s c xs x count is e read = absurd cc
  at_mark n k false None h false b s c xs x count is e read = rw (← e, read) (head_plain None xs x (params_at nested false n c))
  at_mark n k false (Some j) h false b s c xs x count is e read = rw (← e, read) (head_plain (Some j) xs x (params_at nested false n c))

  pub params_next : (n k : ℕ) (allowed : Bool) (before : Option ℕ) (m : Bool) (b s c : List ℕ) (xs : List Slot) (x : Slot) → k < n → length xs ≡ k → m ≡ (still allowed before && head_is 0x41 b) → s ≡ cond m (drop 1 b) b → slot_at nested s ≡ Some (x, c) → with_params xs before (params_at nested (still allowed before) (n - k) b) ≡ with_params (xs ++ x ∷ []) (after_mark before m k) (params_at nested (still allowed (after_mark before m k)) (n - (k + 1)) c)
  params_next n k allowed before m b s c xs x lt count is e read =
      rw (next_of n k lt, params_is (still allowed before) (n - (k + 1)) b) (at_mark (n - (k + 1)) k allowed before (head_is 0x41 b) m b s c xs x count is e read)

  at_bad : (n : ℕ) (allowed p m : Bool) (before : Option ℕ) (b s : List ℕ) (xs : List Slot) → m ≡ p → s ≡ cond m (drop 1 b) b → slot_at nested s ≡ None → with_params xs before (cond p (marked_then n (slot_at nested (drop 1 b))) (plain_then allowed n (slot_at nested b))) ≡ None
  at_bad n allowed true true before b s xs is e read = rw (← e, read) refl
  at_bad n allowed false false before b s xs is e read = rw (← e, read) refl
  at_bad n allowed true false before b s xs is e read = absurd cc
  at_bad n allowed false true before b s xs is e read = absurd cc

  pub params_bad : (e : SigError) (n k : ℕ) (allowed : Bool) (before : Option ℕ) (m : Bool) (b s : List ℕ) (xs : List Slot) → k < n → m ≡ (allowed && head_is 0x41 b) → s ≡ cond m (drop 1 b) b → Fails e (slot_at nested s) → Fails e (with_params xs before (params_at nested allowed (n - k) b))
  params_bad Bad n k allowed before m b s xs lt is e h = rw (next_of n k lt, params_is allowed (n - (k + 1)) b) (at_bad (n - (k + 1)) allowed (allowed && head_is 0x41 b) m before b s xs is e h)
  params_bad Memory n k allowed before m b s xs lt is e h = tt

  pub params_end : (n k : ℕ) (allowed : Bool) (before : Option ℕ) (b : List ℕ) (xs : List Slot) → n ≤ k → with_params xs before (params_at nested allowed (n - k) b) ≡ Some ((xs, before), b)
  unfolding params_at
  params_end n k allowed before b xs le = let none : n - k ≡ 0 = omega arith in rw none (ap₂ (λ (ys : List Slot) (m : Option ℕ). Some ((ys, m), b)) (append-nil xs) (keeps before (length xs)))
    where
      keeps : (before : Option ℕ) (j : ℕ) → before_with before j None ≡ before
      keeps None j = refl
      keeps (Some i) j = refl

  -- ---- if no SENTINEL is allowed

  abbrev unmarked : Read → Option (List Slot × List ℕ)
  unmarked read = option_map (λ x. (x.0.0, x.1)) read

  unmarked_then : (x : Slot) (o : Read) → option_map (λ y. (x ∷ y.0, y.1)) (unmarked o) ≡ unmarked (option_map (λ y. ((x ∷ y.0.0, option_map suc y.0.1), y.1)) o)
  unmarked_then x None = refl
  unmarked_then x (Some y) = refl

  unmarked_first : (n : ℕ) (o : Option (Slot × List ℕ)) → ((c : List ℕ) → many_at (slot_at nested) n c ≡ unmarked (params_at nested false n c)) → option_and_then (λ x. option_map (λ y. (x.0 ∷ y.0, y.1)) (many_at (slot_at nested) n x.1)) o ≡ unmarked (plain_then false n o)
  unmarked_first n None below = refl
  unmarked_first n (Some x) below = rw (below x.1) (unmarked_then x.0 (params_at nested false n x.1))

  -- parameters without it are values one after another
  pub many_is : (n : ℕ) (b : List ℕ) → many_at (slot_at nested) n b ≡ unmarked (params_at nested false n b)
  unfolding params_at many_at
  many_is zero b = refl
  many_is (suc n) b = unmarked_first n (slot_at nested b) (λ c. many_is n c)

  pub many_fails : (e : SigError) (n : ℕ) (b : List ℕ) → Fails e (params_at nested false n b) → Fails e (many_at (slot_at nested) n b)
  many_fails Bad n b h = many_is n b ∙ ap unmarked h
  many_fails Memory n b h = tt
