use Rattle.writer.proofs.Prelude.{◌≡◌, Result, Ok, Err, IfErr, length, sym, subst, ap, arith, ⊤, IsErrAnd, ∥∥₁_map, ∥∥₁_elim, le_prop}
use Rattle.writer.specs.Errors.{MatchError}
use Rattle.writer.specs.declared.error.WriteError.{WriteError}
use Rattle.writer.specs.declared.error.WriteError.TheVariants.{Memory}
use Rattle.writer.proofs.canonical_root.make_root.Goals as goal

-- `Memory` says nothing about the root
refused : {T : Type 0} (result : Result T WriteError) (P : Type 0) → IsErrAnd result (λ error. error ≡ Memory) → IfErr result (MatchError P ⊤ (λ given. ⊥))
refused (Ok value) P is = tt
refused (Err error) P is =
    let Reported : WriteError → Type 0 = λ error. MatchError P ⊤ (λ given. ⊥) error in
    subst Reported (sym is) tt

pub make-prepared-requires : goal.make-prepared-requires
make-prepared-requires g c = ∥∥₁_map c.holds_one.ensures.shown (λ some.
    (some.0, c.holds_one.ensures.valid some.0 some.1, c.in_ok-plan.ensures.plan some.0 some.1))

pub returns-in_err-prepared-clause-refused : goal.returns-in_err-prepared-clause-refused
returns-in_err-prepared-clause-refused g c model is = refused c.from_residual-in_err-prepared.result _ c.from_residual-in_err-prepared.ensures.1

pub returns-clause-root : goal.returns-clause-root
returns-clause-root g c model is = c.in_ok-prepared.ensures model (c.in_ok-plan.ensures.plan model is)

pub returns-clause-within : goal.returns-clause-within
returns-clause-within g c = ∥∥₁_elim c.holds_one.ensures.shown le_prop (λ some.
    omega (arith, ap length (c.in_ok-prepared.ensures some.0 (c.in_ok-plan.ensures.plan some.0 some.1)), c.in_ok-plan.ensures.fits some.0 some.1))
