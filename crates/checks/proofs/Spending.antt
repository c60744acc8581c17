-- Spending a budget, step by step.
use Rattle.checks.proofs.Prelude.{ℕ, ◌+◌, ◌<◌, ◌≤◌, refl, arith, Budget, IsBelow, Takes, Spends, sum_below}
use Rattle.checks.specs.declared.budget.Budget.TheVariants.{Unbounded, Left}
use Rattle.checks.proofs.Sums.{sum_none, sum_more, sum_step}

spends_none : (budget : Budget) → Spends budget budget 0
spends_none Unbounded = refl
spends_none (Left left) = omega arith

spends_more : (a b c : Budget) (m n : ℕ) → Spends a b m → Spends b c n → Spends a c (m + n)
spends_more Unbounded Unbounded c m n before here = here
spends_more Unbounded (Left l) c m n before here = cc
spends_more (Left k) Unbounded c m n before here = absurd before
spends_more (Left k) (Left l) Unbounded m n before here = here
spends_more (Left k) (Left l) (Left j) m n before here = omega arith

below_more : (a b : Budget) (m n : ℕ) → Spends a b m → IsBelow b n → IsBelow a (m + n)
below_more Unbounded Unbounded m n before below = below
below_more Unbounded (Left l) m n before below = cc
below_more (Left k) Unbounded m n before below = absurd before
below_more (Left k) (Left l) m n before below = omega arith

pub below_within : (a : Budget) (m n : ℕ) → m ≤ n → IsBelow a m → IsBelow a n
below_within Unbounded m n more below = below
below_within (Left k) m n more below = omega arith

pub takes_none : (budget : Budget) → Takes budget budget 0
takes_none Unbounded = refl
takes_none (Left left) = omega arith

pub takes_more : (a b c : Budget) (m n : ℕ) → Takes a b m → Takes b c n → Takes a c (m + n)
takes_more Unbounded Unbounded c m n before here = here
takes_more Unbounded (Left l) c m n before here = cc
takes_more (Left k) Unbounded c m n before here = absurd before
takes_more (Left k) (Left l) Unbounded m n before here = here
takes_more (Left k) (Left l) (Left j) m n before here = omega arith

pub below_taken : (a b : Budget) (m n : ℕ) → Takes a b m → IsBelow b n → IsBelow a (m + n)
below_taken Unbounded Unbounded m n before below = below
below_taken Unbounded (Left l) m n before below = cc
below_taken (Left k) Unbounded m n before below = absurd before
below_taken (Left k) (Left l) m n before below = omega arith

-- what is taken is spent
pub taken_within : (a b : Budget) (m n : ℕ) → m ≤ n → Takes a b m → Spends a b n
taken_within Unbounded b m n more taken = taken
taken_within (Left k) Unbounded m n more taken = taken
taken_within (Left k) (Left l) m n more taken = omega arith

-- nothing is spent over no parts
pub parts_none : (f : ℕ → ℕ) (budget : Budget) → Spends budget budget (sum_below f 0)
parts_none f budget = rw sum_none (spends_none budget)

-- one more part is spent
pub part_spent : (f : ℕ → ℕ) (k : ℕ) (a b c : Budget) → Spends a b (sum_below f k) → Spends b c (f k) → Spends a c (sum_below f (k + 1))
part_spent f k a b c before here = rw sum_more (spends_more a b c (sum_below f k) (f k) before here)

-- if what is left is less than the next part, the budget is less than all parts
pub part_below : (f : ℕ → ℕ) (k count : ℕ) (a b : Budget) → k < count → Spends a b (sum_below f k) → IsBelow b (f k) → IsBelow a (sum_below f count)
part_below f k count a b below spent here =
    below_within a (sum_below f k + f k) (sum_below f count) (sum_step f k count below) (below_more a b (sum_below f k) (f k) spent here)

-- spending nothing stays within any number of bytes
pub spends_any : (budget : Budget) (bytes : ℕ) → Spends budget budget bytes
spends_any Unbounded bytes = refl
spends_any (Left left) bytes = omega arith

-- one more part is taken
pub part_taken : (f : ℕ → ℕ) (k : ℕ) (a b c : Budget) → Takes a b (sum_below f k) → Takes b c (f k) → Takes a c (sum_below f (k + 1))
part_taken f k a b c before here = rw sum_more (takes_more a b c (sum_below f k) (f k) before here)

pub none_taken : (f : ℕ → ℕ) (budget : Budget) → Takes budget budget (sum_below f 0)
none_taken f budget = rw sum_none (takes_none budget)

-- a budget of which so much was taken is not below that
pub taken_enough : (a b : Budget) (m n : ℕ) → n ≤ m → Takes a b m → ¬ IsBelow a n
taken_enough Unbounded b m n few taken below = below
taken_enough (Left k) Unbounded m n few taken below = taken
taken_enough (Left k) (Left l) m n few taken below = omega arith

-- if what is left is less than the next part, the budget is less than all parts
pub part_refused : (f : ℕ → ℕ) (k count : ℕ) (a b : Budget) → k < count → Takes a b (sum_below f k) → IsBelow b (f k) → IsBelow a (sum_below f count)
part_refused f k count a b below taken here =
    below_within a (sum_below f k + f k) (sum_below f count) (sum_step f k count below) (below_taken a b (sum_below f k) (f k) taken here)

pub taken_more_enough : (a b : Budget) (m n : ℕ) → Takes a b m → ¬ IsBelow b n → ¬ IsBelow a (m + n)
taken_more_enough Unbounded b m n taken enough below = below
taken_more_enough (Left k) Unbounded m n taken enough below = taken
taken_more_enough (Left k) (Left l) m n taken enough below = enough (omega arith)
