-- Modifiers and PINNED, one after another and in halves.
use Rattle.sig_text.proofs.Prelude.{◌≡◌, ◌∙◌, ℕ, zero, suc, ◌+◌, ◌-◌, ◌≤◌, Bool, true, false, cond, eqb, ◌||◌, Option, Some, None, List, [], ◌∷◌, ◌++◌, refl, sym, ap, append_assoc, append-nil, arith, option_map, Prefix, Pinned, prefix_at, prefix_of, modifier_at, modifier_after, starts_prefix, Piece, following, prefix_text, marked, mark_at, after_mark, marks_in}

-- ---- the one at the start

pub mark_read : {R : Type 0} (tail : R → List ℕ) (r : Option (Prefix × R)) (b : List ℕ) → option_map (λ x. (Some x.0, tail x.1)) r ≡ prefix_at b → option_map (λ x. (x.0, tail x.1)) r ≡ mark_at b
unfolding mark_at
mark_read tail None b e = ap marked e
mark_read tail (Some x) b e = ap marked e

pub mark_none : (b : List ℕ) → starts_prefix b ≡ false → mark_at b ≡ None
unfolding mark_at prefix_at modifier_at
mark_none [] h = refl
mark_none (c ∷ b) h = of_tests (eqb c 0x45) (eqb c 0x1F) (eqb c 0x20) h
  where
    of_tests : (p q r : Bool) → (p || (q || r)) ≡ false → marked (cond p (Some (Some Pinned, b)) (option_map prefix_of (cond q (modifier_after true b) (cond r (modifier_after false b) (Some (None, c ∷ b)))))) ≡ None
    of_tests true q r e = absurd cc
    of_tests false true r e = absurd cc
    of_tests false false true e = absurd cc
    of_tests false false false e = refl

-- ---- one after another

pub none_in : (k : ℕ) (b : List ℕ) → mark_at b ≡ None → marks_in k b ≡ ([], b)
unfolding marks_in
none_in zero b e = refl
none_in (suc k) b e = rw e refl

split_at : (h k m : ℕ) (b : List ℕ) → m ≡ h + k → marks_in m b ≡ ((marks_in h b).0 ++ (marks_in k (marks_in h b).1).0, (marks_in k (marks_in h b).1).1)
unfolding marks_in
split_at zero k m b e = let same : m ≡ k = omega arith in rw same refl
split_at (suc h) k zero b e = absurd (omega arith)
split_at (suc h) k (suc m) b e = of_mark (mark_at b) refl (λ c. split_at h k m c (omega arith))
  where
    of_mark : (o : Option (Prefix × List ℕ)) → mark_at b ≡ o → ((c : List ℕ) → marks_in m c ≡ ((marks_in h c).0 ++ (marks_in k (marks_in h c).1).0, (marks_in k (marks_in h c).1).1))
        → after_mark (marks_in m) b o ≡ ((after_mark (marks_in h) b o).0 ++ (marks_in k (after_mark (marks_in h) b o).1).0, (marks_in k (after_mark (marks_in h) b o).1).1)
    of_mark None f more = let end = none_in k b f in rw end refl
    of_mark (Some x) f more = let tail = more x.1 in rw tail refl

last_mark : (d : List ℕ) (p : Prefix) (c : List ℕ) → mark_at d ≡ Some (p, c) → marks_in 1 d ≡ (p ∷ [], c)
unfolding marks_in
last_mark d p c f = rw f refl

pub marks_next : (n : ℕ) (b : List ℕ) (p : Prefix) (c : List ℕ) → mark_at (marks_in n b).1 ≡ Some (p, c) → (marks_in (n + 1) b).1 ≡ c
marks_next n b p c e = let s = split_at n 1 (n + 1) b refl in let end = last_mark (marks_in n b).1 p c e in rw (s, end) refl

pub marks_end : (n m : ℕ) (b : List ℕ) → mark_at (marks_in n b).1 ≡ None → n ≤ m → marks_in m b ≡ marks_in n b
marks_end n m b e le = let s = split_at n (m - n) m b (omega arith) in let end = none_in (m - n) (marks_in n b).1 e in rw (s, end) (ap (λ (l : List Prefix). (l, (marks_in n b).1)) (append-nil (marks_in n b).0))

-- ---- their texts

following_append : (xs ys : List Prefix) → following prefix_text (xs ++ ys) ≡ following prefix_text ys ++ following prefix_text xs
following_append [] ys = sym (append-nil (following prefix_text ys))
following_append (x ∷ xs) ys = ap (λ (t : List Piece). t ++ prefix_text x) (following_append xs ys) ∙ append_assoc (following prefix_text ys) (following prefix_text xs) (prefix_text x)

pub halves : (count half : ℕ) (b : List ℕ) → half ≤ count → following prefix_text (marks_in count b).0 ≡ following prefix_text (marks_in (count - half) (marks_in half b).1).0 ++ following prefix_text (marks_in half b).0
halves count half b le = let s = split_at half (count - half) count b (omega arith) in rw s (following_append (marks_in half b).0 (marks_in (count - half) (marks_in half b).1).0)

pub one_text : (b : List ℕ) (p : Prefix) (c : List ℕ) → mark_at b ≡ Some (p, c) → following prefix_text (marks_in 1 b).0 ≡ prefix_text p
unfolding marks_in
one_text b p c e = rw e refl

pub no_text : (n : ℕ) (b : List ℕ) → mark_at b ≡ None → following prefix_text (marks_in n b).0 ≡ []
no_text n b e = rw (none_in n b e) refl

pub zero_text : (n : ℕ) (b : List ℕ) → n ≡ 0 → following prefix_text (marks_in n b).0 ≡ []
unfolding marks_in
zero_text zero b e = refl
zero_text (suc n) b e = absurd (omega arith)
