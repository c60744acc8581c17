-- Rules in order. A rule applies only if all rules before it hold. Each rule has the error that is returned if it is
-- broken: a fault for bytes that are read, another type elsewhere.
use Rattle.std.specs.Prelude.{◌≡◌, ℕ, zero, suc, ◌+◌, ◌≤◌, ◌<◌, ◌/◌, Bool, true, false, List, [], ◌∷◌, ◌++◌, ◌⊎◌, Result, Ok, Err}
use Rattle.packed.specs.Codes.{number_of_code}
use Rattle.packed.specs.declared.code.FaultCode.{FaultCode}
use Rattle.packed.specs.declared.fault.Fault.{Fault}

-- a rule: what must hold, and the error if it does not
pub record Rule (F : Type 0) : Type 1 where
  pub holds : Type 0
  pub fault : F

-- all the rules hold
abbrev pub AllHold : {F : Type 0} → List (Rule F) → Type 0
AllHold [] = Unit {0}
AllHold (d ∷ ds) = d.holds × AllHold ds

-- the error is that of the first rule that is broken
abbrev pub FirstBroken : {F : Type 0} → List (Rule F) → F → Type 0
FirstBroken [] found = ⊥
FirstBroken (d ∷ ds) found = ((¬ d.holds) × (found ≡ d.fault)) ⊎ (d.holds × FirstBroken ds found)

-- the rules of i, then of i + 1, and so on, for n numbers
unfoldable pub rules_from : {F : Type 0} → (ℕ → List (Rule F)) → ℕ → ℕ → List (Rule F)
rules_from rules i zero = []
rules_from rules i (suc n) = rules i ++ rules_from rules (i + 1) n

-- these rules if the test is true, else none
abbrev pub rules_if : {F : Type 0} → Bool → List (Rule F) → List (Rule F)
rules_if true rules = rules
rules_if false rules = []

-- the rules of every number from `first` up to but not including `end` hold
pub record HoldBefore {F : Type 0} (rules : ℕ → List (Rule F)) (first end : ℕ) : Type 0 where
  pub each : (k : ℕ) → first ≤ k → k < end → AllHold (rules k)

-- a result reports the rules: `Ok` if all of them hold, else `Err` with the error of the first broken one
abbrev pub Reports : {X F : Type 0} → List (Rule F) → Result X F → Type 0
Reports rules (Ok x) = AllHold rules
Reports rules (Err found) = FirstBroken rules found

-- the fault of a rule at an offset; its layer is the hundreds of its number
abbrev pub fault : FaultCode → ℕ → Fault
fault code offset = record { layer = number_of_code code / 100; code = number_of_code code; offset = offset }

-- the rule that something must hold, else the fault with this code at this offset
abbrev pub rule : Type 0 → FaultCode → ℕ → Rule Fault
rule holds code offset = record { holds = holds; fault = fault code offset }

-- the same fault, its offset moved up by a number of bytes
abbrev pub rebase : ℕ → Fault → Fault
rebase by found = record { layer = found.layer; code = found.code; offset = by + found.offset }

-- the same rules, with the offsets of their faults moved up by a number of bytes
abbrev pub rebased : ℕ → List (Rule Fault) → List (Rule Fault)
rebased by [] = []
rebased by (d ∷ ds) = record { holds = d.holds; fault = rebase by d.fault } ∷ rebased by ds
