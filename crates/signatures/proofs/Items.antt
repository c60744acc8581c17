-- Values that are built one after another, with the values before them.
use Rattle.signatures.proofs.Prelude.{◌≡◌, ℕ, suc, ◌+◌, ◌-◌, ◌<◌, ◌≤◌, Bool, false, Option, Some, None, Result, Ok, Err, List, [], ◌∷◌, ◌++◌, length, append_assoc, append-nil, refl, sym, ap, subst, arith, IfSome, option_map, ok_or, Reader, Optional, many_at, leading_at, Stepping, ShorterItem, leading_is, SigError, Bad, Memory, Fails, Gives}
use Rattle.std.specs.Result.{IsErr, IsErrAnd}

-- if a value in it is not built, the whole value is not built, for the same reason
pub failed : {A B : Type 0} (view : A → B) (e : SigError) (read : Option B) (result : Result A SigError) → IsErr result × IsErrAnd result (λ reason. reason ≡ e) → Fails e read → Gives view result read
failed view e read (Ok x) k h = absurd k.1
failed view e read (Err reason) k h = subst (λ (it : SigError). Fails it read) (sym k.1) h

-- the result of a leaf, with `Bad` if it read nothing
pub given : {A B : Type 0} (view : A → B) (found : Option A) (read : Option B) (result : Result A SigError) → option_map view found ≡ read → result ≡ ok_or found Bad → Gives view result read
given view None read result e f = rw f (sym e)
given view (Some x) read result e f = rw f (sym e)

-- what is read, with the values before it
abbrev pub with_head : {A : Type 0} → List A → Option (List A × List ℕ) → Option (List A × List ℕ)
with_head head read = option_map (λ x. (head ++ x.0, x.1)) read

head_one : {A : Type 0} (xs : List A) (x : A) (o : Option (List A × List ℕ)) → with_head xs (option_map (λ y. (x ∷ y.0, y.1)) o) ≡ with_head (xs ++ x ∷ []) o
head_one xs x None = refl
head_one {A = A} xs x (Some y) = ap (λ (ys : List A). Some (ys, y.1)) (sym (append_assoc xs (x ∷ []) y.0))

-- ---- a given number of values

pub next_of : (n k : ℕ) → k < n → n - k ≡ suc (n - (k + 1))
next_of n k lt = omega arith

pub many_next : {A : Type 0} (r : Reader A) (n k : ℕ) (b c : List ℕ) (xs : List A) (x : A) → k < n → r b ≡ Some (x, c) → with_head xs (many_at r (n - k) b) ≡ with_head (xs ++ x ∷ []) (many_at r (n - (k + 1)) c)
unfolding many_at
many_next r n k b c xs x lt e = rw (next_of n k lt, e) (head_one xs x (many_at r (n - (k + 1)) c))

pub many_bad : {A : Type 0} (e : SigError) (r : Reader A) (n k : ℕ) (b : List ℕ) (xs : List A) → k < n → Fails e (r b) → Fails e (with_head xs (many_at r (n - k) b))
unfolding many_at
many_bad Bad r n k b xs lt h = rw (next_of n k lt, h) refl
many_bad Memory r n k b xs lt h = tt

pub many_end : {A : Type 0} (r : Reader A) (n k : ℕ) (b : List ℕ) (xs : List A) → n ≤ k → with_head xs (many_at r (n - k) b) ≡ Some (xs, b)
unfolding many_at
many_end {A = A} r n k b xs le = let none : n - k ≡ 0 = omega arith in rw none (ap (λ (ys : List A). Some (ys, b)) (append-nil xs))

-- ---- the values at the start

module _ {A : Type 0} (r : Optional A) (starts : List ℕ → Bool) (steps : Stepping r starts) where
  pub head_next : (b c : List ℕ) (xs : List A) (x : A) → r b ≡ Some (Some x, c) → with_head xs (leading_at r b) ≡ with_head (xs ++ x ∷ []) (leading_at r c)
  head_next b c xs x e = let n = leading_is r starts steps b in rw (n, e) (head_one xs x (leading_at r c))

  pub head_end : (b : List ℕ) (xs : List A) → starts b ≡ false → with_head xs (leading_at r b) ≡ Some (xs, b)
  head_end b xs h =
      let n = leading_is r starts steps b in
      let s = steps.stop b h in
      rw (n, s) (ap (λ (ys : List A). Some (ys, b)) (append-nil xs))

  pub head_bad : (e : SigError) (b : List ℕ) (xs : List A) → Fails e (r b) → Fails e (with_head xs (leading_at r b))
  head_bad Bad b xs h = let n = leading_is r starts steps b in rw (n, h) refl
  head_bad Memory b xs h = tt

  pub item_shorter : (b c : List ℕ) (x : A) → r b ≡ Some (Some x, c) → length c < length b
  item_shorter b c x e = subst (λ (o : Option (Option A × List ℕ)). IfSome o (ShorterItem b)) e (steps.shorter b)
