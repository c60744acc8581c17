-- The first broken rule in order, if there is one.
use Rattle.row_order.proofs.Prelude.{◌≡◌, ℕ, suc, ◌+◌, Bool, true, false, List, [], ◌∷◌, ◌++◌, inl, Option, Some, None, refl, cond, FaultCode, Rule, rule, fault, rules_from, all_append, fails_prefix, fails_back, IsVerdict}
use Rattle.packed.specs.declared.fault.Fault.{Fault}

-- the first of two faults
abbrev pub first_of : Option Fault → Option Fault → Option Fault
first_of None next = next
first_of (Some found) next = Some found

-- the verdict on two lists is the first of their verdicts
verdict_of : (ds es : List (Rule Fault)) (a b : Option Fault) → IsVerdict ds a → IsVerdict es b → IsVerdict (ds ++ es) (first_of a b)
verdict_of ds es None None x y = all_append ds es x y
verdict_of ds es None (Some found) x y = fails_back ds es found x y
verdict_of ds es (Some found) b x y = fails_prefix ds es found x

-- one rule, and a test that says whether it is broken
pub verdict_unless : (P : Type 0) (code : FaultCode) (offset : ℕ) (test : Bool) → (test ≡ false → P) → (test ≡ true → ¬ P)
    → IsVerdict (rule P code offset ∷ []) (cond test (Some (fault code offset)) None)
verdict_unless P code offset true holds fails = inl (fails refl, refl)
verdict_unless P code offset false holds fails = (holds refl, tt)

-- one more number at the start
pub verdict_prefix : (rules : ℕ → List (Rule Fault)) (i j n m : ℕ) (a b : Option Fault) → n ≡ suc m → j ≡ i + 1
    → IsVerdict (rules i) a → IsVerdict (rules_from rules j m) b → IsVerdict (rules_from rules i n) (first_of a b)
unfolding rules_from
verdict_prefix rules i j n m a b more next here tail =
    let behind : IsVerdict (rules_from rules (i + 1) m) b = rw next at tail in
    rw more (verdict_of (rules i) (rules_from rules (i + 1) m) a b here behind)
