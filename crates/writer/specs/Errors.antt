-- Why a root was not written.
use Rattle.std.specs.Prelude.{ℕ}
use Rattle.writer.specs.declared.plan_error.PlanError.{PlanError}
use Rattle.writer.specs.declared.plan_error.PlanError.TheVariants as plan
use Rattle.writer.specs.declared.error.WriteError.{WriteError}
use Rattle.writer.specs.declared.error.WriteError.TheVariants as write

-- a fact for each kind of error
abbrev pub MatchError : Type 0 → Type 0 → (ℕ → Type 0) → WriteError → Type 0
MatchError too_large memory device write.TooLarge = too_large
MatchError too_large memory device write.Memory = memory
MatchError too_large memory device (write.Device given) = device given

-- the error that is returned if there is no plan
abbrev pub unplanned : PlanError → WriteError
unplanned plan.TooLarge = write.TooLarge
unplanned plan.Memory = write.Memory
