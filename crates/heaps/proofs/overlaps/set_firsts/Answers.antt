use Rattle.std.proofs.Common.{arith}
use Rattle.heaps.proofs.overlaps.set_firsts.Goals as goal

pub loop-key-preserved : goal.loop-key-preserved
loop-key-preserved c =
    let kept = c.loop-key.invariant in
    let set = c.set_first-earlier.ensures in
    record {
      len = omega (arith, set.len, kept.len);
      before = λ heap indexes width all. set.key heap indexes width (kept.before heap indexes width all) (all c.loop-key.key-index _ c.loop-key-test.true);
      earlier = λ heap indexes width all old. set.earlier heap indexes width (kept.before heap indexes width all) (all c.loop-key.key-index _ c.loop-key-test.true)
          (kept.earlier heap indexes width all old);
    }
