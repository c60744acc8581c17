-- Values in lists, and in the list of the distinct ones.
use Rattle.std.proofs.Common.{◌≡◌, ℕ, zero, suc, ◌<◌, Bool, true, false, ◌||◌, cond, true≢false, List, [], ◌∷◌, ◌++◌, length, filter, Contains, refl, sym, ap, subst, ◌∙◌, ◌⊎◌, inl, inr, ⊎_elim, arith, append_assoc}
use Rattle.heap_pools.proofs.Prelude.{list_any, bytes_eq, same_text, cases_Bool, cond_both, false≢true, or_from, or_left, or_right, nat_list_eq_equiv, append-nil, list_any-append, is_among, first_uses, distinct, pooled}
use Rattle.std.proofs.Math.Bool.{or-false}

-- a list contains a value
abbrev pub IsIn : {X : Type 0} → X → List X → Type 0
IsIn x [] = ⊥
IsIn x (y ∷ ys) = (y ≡ x) ⊎ IsIn x ys

pub in_from_contains : {X : Type 0} (xs : List X) (x : X) → Contains xs x → IsIn x xs
in_from_contains [] x (k, h, e) = absurd (omega arith)
in_from_contains (y ∷ ys) x (zero, h, e) = inl e
in_from_contains (y ∷ ys) x (suc k, h, e) = inr (in_from_contains ys x (k, omega arith, e))

pub contains_from_in : {X : Type 0} (xs : List X) (x : X) → IsIn x xs → Contains xs x
contains_from_in [] x h = absurd h
contains_from_in (y ∷ ys) x (inl e) = (0, omega arith, e)
contains_from_in (y ∷ ys) x (inr h) = let tail = contains_from_in ys x h in (suc tail.0, omega (arith, tail.1), tail.2)

pub in_any : {X : Type 0} (test : X → Bool) (x : X) (xs : List X) → IsIn x xs → test x ≡ true → list_any test xs ≡ true
in_any test x [] h t = absurd h
in_any test x (z ∷ zs) (inl e) t = or_left (test z) (list_any test zs) (ap test e ∙ t)
in_any test x (z ∷ zs) (inr h) t = or_right (test z) (list_any test zs) (in_any test x zs h t)

pub any_in : {X : Type 0} (test : X → Bool) (xs : List X) → list_any test xs ≡ true → (x : X) × IsIn x xs × (test x ≡ true)
any_in test [] h = absurd (false≢true h)
any_in test (z ∷ zs) h = ⊎_elim
    (λ (e : test z ≡ true). (z, inl refl, e))
    (λ (e : test z ≡ false). let tail = any_in test zs (sym (ap (λ b. b || list_any test zs) e) ∙ h) in (tail.0, inr tail.1, tail.2))
    (cases_Bool (test z))

-- a list at its first value that passes a test
pub record IsFirst (test : List ℕ → Bool) (values : List (List ℕ)) : Type 0 where
  pub before : List (List ℕ)
  pub found : List ℕ
  pub after : List (List ℕ)
  pub whole : values ≡ before ++ found ∷ after
  pub none : list_any test before ≡ false
  pub passes : test found ≡ true

pub first_of : (test : List ℕ → Bool) (values : List (List ℕ)) → list_any test values ≡ true → IsFirst test values
first_of test [] h = absurd (false≢true h)
first_of test (value ∷ values) h = ⊎_elim
    (λ (e : test value ≡ true). record { before = []; found = value; after = values; whole = refl; none = refl; passes = e })
    (λ (e : test value ≡ false).
    let f = first_of test values (sym (ap (λ b. b || list_any test values) e) ∙ h) in
    record { before = value ∷ f.before; found = f.found; after = f.after; whole = ap (λ l. value ∷ l) f.whole; none = ap (λ b. b || list_any test f.before) e ∙ f.none; passes = f.passes })
    (cases_Bool (test value))

pub in_filter : {X : Type 0} (test : X → Bool) (x : X) (xs : List X) → IsIn x xs → test x ≡ true → IsIn x (filter test xs)
in_filter test x [] h t = absurd h
in_filter test x (z ∷ zs) (inl e) t = subst (λ b. IsIn x (cond b (z ∷ filter test zs) (filter test zs))) (sym (ap test e ∙ t)) (inl e)
in_filter test x (z ∷ zs) (inr h) t =
    let tail = in_filter test x zs h t in
    cond_both (test z) (z ∷ filter test zs) (filter test zs) (IsIn x) (λ _. inr tail) (λ _. tail)

pub among_in : (values : List (List ℕ)) (value : List ℕ) → IsIn value values → is_among values value ≡ true
among_in values value h = in_any (bytes_eq value) value values h (nat_list_eq_equiv.refl value)

-- a value that is in the list before it is not added again
pub among_push : (before : List (List ℕ)) (value x : List ℕ) → is_among (before ++ value ∷ []) x ≡ (is_among before x || bytes_eq x value)
among_push before value x = list_any-append (bytes_eq x) before (value ∷ []) ∙ ap (λ b. is_among before x || b) (or-false (bytes_eq x value))

-- the first use of each value is among the first uses
first_use : (before used : List (List ℕ)) (x : List ℕ) → IsIn x used → is_among before x ≡ false → IsIn x (first_uses before used)
first_use before [] x h none = absurd h
first_use before (value ∷ values) x h none = ⊎_elim
    (λ (e : bytes_eq x value ≡ true).
    let same : value ≡ x = sym (same_text x value (sym e)) in
    subst (λ b. IsIn x (cond b (first_uses (before ++ value ∷ []) values) (value ∷ first_uses (before ++ value ∷ []) values))) (sym (ap (is_among before) same ∙ none)) (inl same))
    (λ (e : bytes_eq x value ≡ false).
    let later : IsIn x values = ⊎_elim (λ (same : value ≡ x). absurd (true≢false (sym (nat_list_eq_equiv.refl x) ∙ ap (bytes_eq x) (sym same) ∙ e))) (λ (l : IsIn x values). l) h in
    let more = first_use (before ++ value ∷ []) values x later (among_push before value x ∙ or_from _ _ none e) in
    let tail = first_uses (before ++ value ∷ []) values in
    cond_both (is_among before value) tail (value ∷ tail) (IsIn x) (λ _. more) (λ _. inr more))
    (cases_Bool (bytes_eq x value))

nothing_like : (x : List ℕ) → 0 < length x → is_among ([] ∷ []) x ≡ false
nothing_like [] h = absurd (omega arith)
nothing_like (b ∷ bs) h = refl

pub in_distinct : (used : List (List ℕ)) (x : List ℕ) → IsIn x used → 0 < length x → IsIn x (distinct used)
in_distinct used x h some = first_use ([] ∷ []) used x h (nothing_like x some)

-- a value is in `before` or the first uses if and only if it is in `before` or the values
among_known : (before tail : List (List ℕ)) (value x : List ℕ) → is_among before value ≡ true → is_among ((before ++ value ∷ []) ++ tail) x ≡ is_among (before ++ tail) x
among_known before tail value x known =
    let left = list_any-append (bytes_eq x) (before ++ value ∷ []) tail in
    let right = list_any-append (bytes_eq x) before tail in
    let same : (is_among before x || bytes_eq x value) ≡ is_among before x = ⊎_elim
    (λ (e : bytes_eq x value ≡ true).
    let there : is_among before x ≡ true = ap (is_among before) (same_text x value (sym e)) ∙ known in
    ap (λ b. b || bytes_eq x value) there ∙ sym there)
    (λ (e : bytes_eq x value ≡ false). ap (λ b. is_among before x || b) e ∙ or-false (is_among before x))
    (cases_Bool (bytes_eq x value)) in
    left ∙ ap (λ b. b || is_among tail x) (among_push before value x ∙ same) ∙ sym right

pub among_first_uses : (before used : List (List ℕ)) (x : List ℕ) → is_among (before ++ first_uses before used) x ≡ is_among (before ++ used) x
among_first_uses before [] x = refl
among_first_uses before (value ∷ values) x =
    let more = among_first_uses (before ++ value ∷ []) values x in
    let tail = first_uses (before ++ value ∷ []) values in
    let moved = ap (λ (l : List (List ℕ)). is_among l x) (append_assoc before (value ∷ []) values) in
    ⊎_elim
    (λ (t : is_among before value ≡ true).
    ap (λ b. is_among (before ++ cond b tail (value ∷ tail)) x) t ∙ sym (among_known before tail value x t) ∙ more ∙ moved)
    (λ (f : is_among before value ≡ false).
    ap (λ b. is_among (before ++ cond b tail (value ∷ tail)) x) f ∙ sym (ap (λ (l : List (List ℕ)). is_among l x) (append_assoc before (value ∷ []) tail)) ∙ more ∙ moved)
    (cases_Bool (is_among before value))

-- one more value
first_uses-push : (before used : List (List ℕ)) (x : List ℕ) → first_uses before (used ++ x ∷ []) ≡ cond (is_among (before ++ used) x) (first_uses before used) (first_uses before used ++ x ∷ [])
first_uses-push before [] x = ap (λ (l : List (List ℕ)). cond (is_among l x) [] (x ∷ [])) (sym (append-nil before))
first_uses-push before (value ∷ values) x =
    let more = first_uses-push (before ++ value ∷ []) values x in
    let tail = first_uses (before ++ value ∷ []) values in
    let test : is_among ((before ++ value ∷ []) ++ values) x ≡ is_among (before ++ value ∷ values) x = ap (λ (l : List (List ℕ)). is_among l x) (append_assoc before (value ∷ []) values) in
    let all : first_uses (before ++ value ∷ []) (values ++ x ∷ []) ≡ cond (is_among (before ++ value ∷ values) x) tail (tail ++ x ∷ []) = more ∙ ap (λ b. cond b tail (tail ++ x ∷ [])) test in
    ap (λ (l : List (List ℕ)). cond (is_among before value) l (value ∷ l)) all
    ∙ both (is_among before value) (is_among (before ++ value ∷ values) x) tail value x
  where
    both : (a b : Bool) (tail : List (List ℕ)) (value x : List ℕ) → cond a (cond b tail (tail ++ x ∷ [])) (value ∷ cond b tail (tail ++ x ∷ [])) ≡ cond b (cond a tail (value ∷ tail)) (cond a tail (value ∷ tail) ++ x ∷ [])
    both true true tail value x = refl
    both true false tail value x = refl
    both false true tail value x = refl
    both false false tail value x = refl

pub distinct-push : (used : List (List ℕ)) (value : List ℕ) → distinct (used ++ value ∷ []) ≡ pooled (distinct used) value
distinct-push used value =
    first_uses-push ([] ∷ []) used value
    ∙ ap (λ b. cond b (distinct used) (distinct used ++ value ∷ [])) (sym (among_first_uses ([] ∷ []) used value))
