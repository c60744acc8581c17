-- The reasons why nothing is loaded.
use Rattle.owned_model.proofs.Prelude.{◌≡◌, List, Result, Ok, Err, IfErr, sym, subst, IsRefused}
use Rattle.std.specs.Result.{IsErrAnd}
use Rattle.packed.specs.declared.fault.Fault.{Fault}
use Rattle.packed.specs.Rule.{Rule, FirstBroken}
use Rattle.owned_model.specs.declared.error.LoadError.{LoadError}
use Rattle.owned_model.specs.declared.error.LoadError.TheVariants as load

-- the fault of the first broken rule, if there is no model
pub fault_refused : {X : Type 0} (r : Result X LoadError) (rules : List (Rule Fault)) (fits : Type 0) (found : Fault)
    → IsErrAnd r (λ error. error ≡ load.Fault found) → FirstBroken rules found → (¬ fits) → IfErr r (IsRefused rules fits)
fault_refused (Ok x) rules fits found is first none = tt
fault_refused (Err error) rules fits found is first none =
    let P : LoadError → Type 0 = λ e. IsRefused rules fits e in
    subst P (sym is) (first, none)

-- out of memory, if there is a model
pub memory_refused : {X : Type 0} (r : Result X LoadError) (rules : List (Rule Fault)) (fits : Type 0)
    → IsErrAnd r (λ error. error ≡ load.Memory) → fits → IfErr r (IsRefused rules fits)
memory_refused (Ok x) rules fits is some = tt
memory_refused (Err error) rules fits is some =
    let P : LoadError → Type 0 = λ e. IsRefused rules fits e in
    subst P (sym is) some
