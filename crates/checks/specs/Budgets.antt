-- What a budget allows.
use Rattle.std.specs.Prelude.{◌≡◌, ℕ, ◌+◌, ◌≤◌, ◌<◌}
use Rattle.checks.specs.declared.budget.Budget.{Budget}
use Rattle.checks.specs.declared.budget.Budget.TheVariants.{Unbounded, Left}

-- the budget is less than this number of bytes
abbrev pub IsBelow : Budget → ℕ → Type 0
IsBelow Unbounded bytes = ⊥
IsBelow (Left left) bytes = left < bytes

-- one budget is what is left of another, of which exactly these bytes were spent
abbrev pub Takes : Budget → Budget → ℕ → Type 0
Takes Unbounded after bytes = after ≡ Unbounded
Takes (Left left) Unbounded bytes = ⊥
Takes (Left left) (Left after) bytes = left ≡ after + bytes

-- the second budget is what is left of the first, after at most this number of bytes was spent
abbrev pub Spends : Budget → Budget → ℕ → Type 0
Spends Unbounded after bytes = after ≡ Unbounded
Spends (Left left) Unbounded bytes = ⊥
Spends (Left left) (Left after) bytes = left ≤ after + bytes
