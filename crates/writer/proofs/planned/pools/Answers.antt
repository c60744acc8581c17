use Rattle.writer.proofs.Prelude.{◌≡◌, Result, Ok, Err, refl, ap, ⊎_elim, IsErrAnd, plan_error}
use Rattle.heap_pools.specs.declared.pool_error.PoolError.{PoolError}
use Rattle.heap_pools.specs.declared.pool_error.PoolError.TheVariants.{Memory, Full}
use Rattle.writer.specs.declared.plan_error.PlanError.{PlanError}
use Rattle.writer.specs.declared.plan_error.PlanError.TheVariants.{TooLarge}
use Rattle.writer.proofs.planned.pools.Goals as goal

-- `TooLarge` is returned only if a pool is full
reported : {T : Type 0} (result : Result T PlanError) (pool : PoolError) (Q : Type 0) → IsErrAnd result (λ error. error ≡ plan_error pool) → result ≡ Err TooLarge
    → (pool ≡ Full → Q) → Q
reported (Ok value) pool Q gives large full = absurd cc
reported (Err error) Memory Q gives large full = absurd cc
reported (Err error) Full Q gives large full = full refl

pub returns-in_err-pools_of-clause-too_large : goal.returns-in_err-pools_of-clause-too_large
returns-in_err-pools_of-clause-too_large g c model is large =
    let streams = c.streams_are_within_roots.ensures in
    reported c.from_residual.result c.in_err-pools_of.field-0.0 _ c.from_residual.ensures.1 large
    (λ full. ⊎_elim (streams.texts model) (streams.pools model) (c.in_err-pools_of.ensures.full model is (ap Err full)))
