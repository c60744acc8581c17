use Rattle.checks.proofs.Prelude.{refl, ◌∙◌, arith, length-set}
use Rattle.checks.proofs.CodedLemmas.{limits_none, limits_more}
use Rattle.checks.proofs.coded_limits.limits_by_tag.Goals as goal

pub loop-tag-init : goal.loop-tag-init
loop-tag-init c = record { long = refl; limits = limits_none c.args.source.now.source c.args.coded 32 }

pub loop-tag-preserved : goal.loop-tag-preserved
loop-tag-preserved c =
    let long = c.loop-tag.invariant.long in
    record {
      long = length-set c.loop-tag.limits c.loop-tag.tag c.limit_of.result ∙ long;
      limits = limits_more c.args.source.now.source c.args.coded c.loop-tag.limits c.loop-tag.tag c.limit_of.result (omega (arith, long, c.loop-tag-test.true))
          c.limit_of.ensures c.loop-tag.invariant.limits;
    }
