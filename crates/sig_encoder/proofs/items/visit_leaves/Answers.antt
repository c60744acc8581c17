use Rattle.sig_encoder.proofs.Loops.{goes_by, stops_by, list_next}
use Rattle.sig_encoder.proofs.items.visit_leaves.Goals as goal

pub returns-in_err-visit : goal.returns-in_err-visit
returns-in_err-visit g c =
    stops_by _ _ _ _ _ _ c.from_residual.ensures c.in_err-visit.ensures
    (list_next g.S.PartSink.step g.T.Leaf.parts c.args.leaves.now c.loop-leaf.leaf-index c.leaf-item.result c.loop-leaf.sink c.loop-leaf-test.true c.leaf-item.is) c.loop-leaf.invariant

pub loop-leaf-preserved : goal.loop-leaf-preserved
loop-leaf-preserved g c =
    goes_by _ _ _ _ _ c.in_ok-visit.ensures
    (list_next g.S.PartSink.step g.T.Leaf.parts c.args.leaves.now c.loop-leaf.leaf-index c.leaf-item.result c.loop-leaf.sink c.loop-leaf-test.true c.leaf-item.is) c.loop-leaf.invariant
