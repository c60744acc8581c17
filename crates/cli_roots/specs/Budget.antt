-- The budget of a check, and when it is spent.
use Rattle.std.specs.Prelude.{ℕ, List, Option, None, Some}
use Rattle.cli_roots.specs.Words.{FirstBroken, IsSpentOf, rules_of, Input}
use Rattle.checks.specs.declared.budget.BoundedError.{BoundedError}
use Rattle.checks.specs.declared.budget.BoundedError.TheVariants.{BudgetSpent, Fault}

-- texts or signatures spend the budget
abbrev pub IsSpent : Option ℕ → Input → List ℕ → Type 0
IsSpent None input bytes = ⊥
IsSpent (Some most) input bytes = IsSpentOf most input bytes

-- the first broken rule is reported, or that the budget is spent
abbrev pub StopsWithin : Option ℕ → Input → List ℕ → BoundedError → Type 0
StopsWithin budget input bytes (Fault found) = FirstBroken (rules_of input bytes) found
StopsWithin budget input bytes BudgetSpent = IsSpent budget input bytes
