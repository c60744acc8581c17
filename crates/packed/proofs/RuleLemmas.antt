-- Rules in order.
use Rattle.packed.proofs.Prelude.{◌≡◌, ℕ, zero, suc, ◌+◌, ◌<◌, ◌≤◌, arith, List, [], ◌∷◌, ◌++◌, inl, inr, ap, Result, Ok, Err, cases_eq}
use Rattle.std.specs.Result.{IfErr}
use Rattle.packed.specs.declared.fault.Fault.{Fault}
use Rattle.packed.specs.Rule.{Rule, AllHold, FirstBroken, Reports, HoldBefore, rules_from, rebase, rebased}

-- if all rules hold, none is the first broken one
pub none_fails : {F : Type 0} (ds : List (Rule F)) (found : F) → AllHold ds → FirstBroken ds found → ⊥
none_fails [] found all first = first
none_fails (d ∷ ds) found all (inl fails) = fails.0 all.0
none_fails (d ∷ ds) found all (inr later) = none_fails ds found all.1 later.1

-- the error of a result is that of the first broken rule
pub reports_first : {X F : Type 0} (ds : List (Rule F)) (r : Result X F) → Reports ds r → IfErr r (FirstBroken ds)
reports_first ds (Ok x) all = tt
reports_first ds (Err found) fails = fails

-- the rules of a concatenation hold if those of both lists hold
pub all_append : {F : Type 0} (ds es : List (Rule F)) → AllHold ds → AllHold es → AllHold (ds ++ es)
all_append [] es x y = y
all_append (d ∷ ds) es x y = (x.0, all_append ds es x.1 y)

pub all_prefix : {F : Type 0} (ds es : List (Rule F)) → AllHold (ds ++ es) → AllHold ds
all_prefix [] es x = tt
all_prefix (d ∷ ds) es x = (x.0, all_prefix ds es x.1)

pub all_back : {F : Type 0} (ds es : List (Rule F)) → AllHold (ds ++ es) → AllHold es
all_back [] es x = x
all_back (d ∷ ds) es x = all_back ds es x.1

-- the first broken rule of a list stays the first if rules are appended
pub fails_prefix : {F : Type 0} (ds es : List (Rule F)) (found : F) → FirstBroken ds found → FirstBroken (ds ++ es) found
fails_prefix [] es found x = absurd x
fails_prefix (d ∷ ds) es found (inl x) = inl x
fails_prefix (d ∷ ds) es found (inr x) = inr (x.0, fails_prefix ds es found x.1)

-- after rules that hold, the first broken rule is the first of all
pub fails_back : {F : Type 0} (ds es : List (Rule F)) (found : F) → AllHold ds → FirstBroken es found → FirstBroken (ds ++ es) found
fails_back [] es found all x = x
fails_back (d ∷ ds) es found all x = inr (all.0, fails_back ds es found all.1 x)

-- zero numbers have no rules
pub none_from : {F : Type 0} (rules : ℕ → List (Rule F)) (i n : ℕ) → n ≡ 0 → AllHold (rules_from rules i n)
unfolding rules_from
none_from rules i n e = rw e tt

-- the rules of a range of numbers hold if and only if the rules of each number hold
pub each_holds : {F : Type 0} (rules : ℕ → List (Rule F)) (i n : ℕ) → AllHold (rules_from rules i n) → (k : ℕ) → i ≤ k → k < i + n → AllHold (rules k)
unfolding rules_from
each_holds rules i zero all k low high = absurd (omega arith)
each_holds rules i (suc n) all k low high =
    elim (cases_eq k i) [
      | inl same ↦ rw same (all_prefix (rules i) (rules_from rules (i + 1) n) all)
      | inr other ↦ each_holds rules (i + 1) n (all_back (rules i) (rules_from rules (i + 1) n) all) k (omega arith) (omega arith)
    ]

pub all_of_each : {F : Type 0} (rules : ℕ → List (Rule F)) (i n : ℕ) → ((k : ℕ) → i ≤ k → k < i + n → AllHold (rules k)) → AllHold (rules_from rules i n)
unfolding rules_from
all_of_each rules i zero each = tt
all_of_each rules i (suc n) each =
    all_append (rules i) (rules_from rules (i + 1) n) (each i (omega arith) (omega arith)) (all_of_each rules (i + 1) n (λ k low high. each k (omega arith) (omega arith)))

-- the first broken rule, after numbers whose rules hold
pub fails_from : {F : Type 0} (rules : ℕ → List (Rule F)) (i n k : ℕ) (found : F) → i ≤ k → k < i + n → ((j : ℕ) → i ≤ j → j < k → AllHold (rules j)) → FirstBroken (rules k) found → FirstBroken (rules_from rules i n) found
unfolding rules_from
fails_from rules i zero k found low high before first = absurd (omega arith)
fails_from rules i (suc n) k found low high before first =
    elim (cases_eq k i) [
      | inl same ↦ fails_prefix (rules i) (rules_from rules (i + 1) n) found (rw same at first)
      | inr other ↦ fails_back (rules i) (rules_from rules (i + 1) n) found (before i (omega arith) (omega arith)) (fails_from rules (i + 1) n k found (omega arith) (omega arith) (λ j l h. before j (omega arith) (omega arith)) first)
    ]

-- a loop over numbers: before the first, one step, after the last, at a fault
pub before_none : {F : Type 0} (rules : ℕ → List (Rule F)) (first end : ℕ) → end ≤ first → HoldBefore rules first end
before_none rules first end h = record { each = λ k low high. absurd (omega arith) }

pub before_more : {F : Type 0} (rules : ℕ → List (Rule F)) (first k : ℕ) → HoldBefore rules first k → AllHold (rules k) → HoldBefore rules first (k + 1)
before_more rules first k before here =
    record { each = λ j low high. elim (cases_eq j k) [ inl same ↦ rw same here | inr other ↦ before.each j low (omega arith) ] }

pub before_all : {F : Type 0} (rules : ℕ → List (Rule F)) (first k n : ℕ) → HoldBefore rules first k → first + n ≤ k → AllHold (rules_from rules first n)
before_all rules first k n before h = all_of_each rules first n (λ j low high. before.each j low (omega arith))

pub before_of_all : {F : Type 0} (rules : ℕ → List (Rule F)) (n : ℕ) → AllHold (rules_from rules 0 n) → HoldBefore rules 0 n
before_of_all rules n all = record { each = λ k low high. each_holds rules 0 n all k low (omega arith) }

pub before_fewer : {F : Type 0} (rules : ℕ → List (Rule F)) (first k n : ℕ) → k ≤ n → HoldBefore rules first n → HoldBefore rules first k
before_fewer rules first k n fewer before = record { each = λ j low high. before.each j low (omega arith) }

pub before_fails : {F : Type 0} (rules : ℕ → List (Rule F)) (first k n : ℕ) (found : F) → HoldBefore rules first k → first ≤ k → k < first + n → FirstBroken (rules k) found → FirstBroken (rules_from rules first n) found
before_fails rules first k n found before low high fails = fails_from rules first n k found low high before.each fails

-- rebased rules hold if the rules hold, and their first fault is the rebased one
pub all_rebased : (by : ℕ) (ds : List (Rule Fault)) → AllHold ds → AllHold (rebased by ds)
all_rebased by [] all = tt
all_rebased by (d ∷ ds) all = (all.0, all_rebased by ds all.1)

pub all_lowered : (by : ℕ) (ds : List (Rule Fault)) → AllHold (rebased by ds) → AllHold ds
all_lowered by [] all = tt
all_lowered by (d ∷ ds) all = (all.0, all_lowered by ds all.1)

pub fails_rebased : (by : ℕ) (ds : List (Rule Fault)) (found : Fault) → FirstBroken ds found → FirstBroken (rebased by ds) (rebase by found)
fails_rebased by [] found x = absurd x
fails_rebased by (d ∷ ds) found (inl x) = inl (x.0, ap (rebase by) x.1)
fails_rebased by (d ∷ ds) found (inr x) = inr (x.0, fails_rebased by ds found x.1)
