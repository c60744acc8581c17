-- Results within a budget, part by part.
use Rattle.checks.proofs.Prelude.{ℕ, ◌<◌, List, ◌++◌, arith, Rule, AllHold, HoldBefore, rules_from, before_fails, fails_back, Budget, BoundedError, IsBelow, Takes, FailsWithin, sum_below}
use Rattle.packed.specs.declared.fault.Fault.{Fault as First}
use Rattle.checks.specs.declared.budget.BoundedError.TheVariants.{Fault, BudgetSpent}
use Rattle.checks.proofs.Spending.{part_refused}

-- if all parts before hold, the error of the next part is the error of all parts
pub parts_fail : (rules : ℕ → List (Rule First)) (bytes : ℕ → ℕ) (k n : ℕ) (a b : Budget) (error : BoundedError) → HoldBefore rules 0 k → k < n
    → Takes a b (sum_below bytes k) → FailsWithin (IsBelow b (bytes k)) (rules k) error
    → FailsWithin (IsBelow a (sum_below bytes n)) (rules_from rules 0 n) error
parts_fail rules bytes k n a b (Fault found) hold below spent fails = before_fails rules 0 k n found hold (omega arith) (omega arith) fails
parts_fail rules bytes k n a b BudgetSpent hold below spent fails = part_refused bytes k n a b below spent fails

-- after rules that hold, the error is that of the remaining rules
pub tail_fails : (spent : Type 0) (ds es : List (Rule First)) (error : BoundedError) → AllHold ds → FailsWithin spent es error
    → FailsWithin spent (ds ++ es) error
tail_fails spent ds es (Fault found) all fails = fails_back ds es found all fails
tail_fails spent ds es BudgetSpent all fails = fails

-- of a spent budget less may be said
pub weaker_fails : (P Q : Type 0) (ds : List (Rule First)) (error : BoundedError) → (P → Q) → FailsWithin P ds error → FailsWithin Q ds error
weaker_fails P Q ds (Fault found) weaker fails = fails
weaker_fails P Q ds BudgetSpent weaker fails = weaker fails
