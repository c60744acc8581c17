-- The offsets of a planned root fit four bytes.
use Rattle.writer.proofs.Prelude.{◌+◌, ◌^◌, ◌≤◌, length, ap, arith, sum_by, Metadata, size_of, held, heading_size, IsRootPlan}
use Rattle.writer.specs.declared.root_plan.RootPlan.{RootPlan}

module _ (plan : RootPlan) (model : Metadata) (is : IsRootPlan model plan) where
  pub short : length plan.version.now ≤ 254
  short = omega (arith, ap length is.version, is.short)

  pub low : heading_size plan.version.now (size_of plan.sizes) (held (size_of plan.sizes)) + sum_by (size_of plan.sizes) (held (size_of plan.sizes)) + 1 ≤ 2 ^ 32
  low = rw is.version (omega (arith, is.parts, is.limit))
