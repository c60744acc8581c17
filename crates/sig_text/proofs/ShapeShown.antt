-- The shape of an array, step by step.
use Rattle.sig_text.proofs.Prelude.{◌≡◌, ℕ, zero, suc, ◌+◌, ◌-◌, ◌<◌, Some, None, List, [], ◌∷◌, ◌++◌, refl, arith, codes, lt-ltb, Piece, word, dimension_text, flag_text, param_flags, param_name, CoreShown, number_or, signed_or, numbers_behind, next_of, before, dimensions_shown, slot_shown, is_marked, behind_mark, listed_shown, named_slots_shown}

pub behind_more : (n : ℕ) (b : List ℕ) → 0 < n → numbers_behind n b ≡ numbers_behind (n - 1) (number_or b).1
unfolding numbers_behind
behind_more zero b h = absurd (omega arith)
behind_more (suc n) b h = let less : suc n - 1 ≡ n = omega arith in rw less refl

pub behind_end : (n : ℕ) (b : List ℕ) → n ≡ 0 → numbers_behind n b ≡ b
unfolding numbers_behind
behind_end zero b h = refl
behind_end (suc n) b h = absurd (omega arith)

pub next_none : {A : Type 0} (read : List ℕ → A × List ℕ) (n : ℕ) (b : List ℕ) → n ≡ 0 → next_of read (n, b) ≡ (None, (0, b))
unfolding next_of
next_none read zero b h = refl
next_none read (suc n) b h = absurd (omega arith)

pub next_some : {A : Type 0} (read : List ℕ → A × List ℕ) (n : ℕ) (b : List ℕ) → 0 < n → next_of read (n, b) ≡ (Some (read b).0, (n - 1, (read b).1))
unfolding next_of
next_some read zero b h = absurd (omega arith)
next_some read (suc n) b h = let less : suc n - 1 ≡ n = omega arith in rw less refl

-- ---- the pieces that remain of a loop

before_next : (separator : List ℕ) (done : ℕ) → before separator (done + 1) ≡ word separator ∷ []
before_next separator done = rw (lt-ltb 0 (done + 1) (omega arith)) refl

pub dimensions_end : (start : List Piece) (n : ℕ) (s l : ℕ × List ℕ) → n ≡ 0 → dimensions_shown start n s l ≡ ([], l.1)
unfolding dimensions_shown
dimensions_end start zero s l e = refl
dimensions_end start (suc n) s l e = absurd (omega arith)

pub dimensions_next : (start : List Piece) (n done : ℕ) (s l : ℕ × List ℕ) → 0 < n → dimensions_shown start n s l
    ≡ (
      start ++ (dimension_text (next_of signed_or l).0 (next_of number_or s).0 ++ (dimensions_shown (before (codes ",") (done + 1)) (n - 1) (next_of number_or s).1 (next_of signed_or l).1).0),
      (dimensions_shown (before (codes ",") (done + 1)) (n - 1) (next_of number_or s).1 (next_of signed_or l).1).1,
    )
unfolding dimensions_shown
dimensions_next start zero done s l h = absurd (omega arith)
dimensions_next start (suc n) done s l h = let less : suc n - 1 ≡ n = omega arith in rw (less, before_next (codes ",") done) refl

pub listed_end : (core : CoreShown) (start : List Piece) (n : ℕ) (b : List ℕ) → n ≡ 0 → listed_shown core start n b ≡ ([], b)
unfolding listed_shown
listed_end core start zero b e = refl
listed_end core start (suc n) b e = absurd (omega arith)

pub listed_next : (core : CoreShown) (start : List Piece) (n done : ℕ) (b : List ℕ) → 0 < n → listed_shown core start n b
    ≡ (
      start ++ (flag_text (is_marked b) (codes "..., ") ++ ((slot_shown core (behind_mark b)).0 ++ (listed_shown core (before (codes ", ") (done + 1)) (n - 1) (slot_shown core (behind_mark b)).1).0)),
      (listed_shown core (before (codes ", ") (done + 1)) (n - 1) (slot_shown core (behind_mark b)).1).1,
    )
unfolding listed_shown
listed_next core start zero done b h = absurd (omega arith)
listed_next core start (suc n) done b h = let less : suc n - 1 ≡ n = omega arith in rw (less, before_next (codes ", ") done) refl

pub named_end : (core : CoreShown) (start : List Piece) (position n : ℕ) (b : List ℕ) → n ≡ 0 → named_slots_shown core start position n b ≡ []
unfolding named_slots_shown
named_end core start position zero b e = refl
named_end core start position (suc n) b e = absurd (omega arith)

pub named_more : (core : CoreShown) (start : List Piece) (position n done : ℕ) (b : List ℕ) → 0 < n → named_slots_shown core start position n b
    ≡ start ++ (flag_text (is_marked b) (codes "..., ") ++ (param_flags position ∷ ((slot_shown core (behind_mark b)).0 ++ (param_name position ∷ named_slots_shown core (before (codes ", ") (done + 1)) (position + 1) (n - 1) (slot_shown core (behind_mark b)).1))))
unfolding named_slots_shown
named_more core start position zero done b h = absurd (omega arith)
named_more core start position (suc n) done b h = let less : suc n - 1 ≡ n = omega arith in rw (less, before_next (codes ", ") done) refl
