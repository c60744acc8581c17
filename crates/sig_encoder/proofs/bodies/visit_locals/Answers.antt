use Rattle.sig_encoder.proofs.Loops.{goes_by, stops_by, locals_next}
use Rattle.sig_encoder.proofs.bodies.visit_locals.Goals as goal

pub returns-in_err-visit_local : goal.returns-in_err-visit_local
returns-in_err-visit_local g c =
    stops_by _ _ _ _ _ _ c.from_residual.ensures c.in_err-visit_local.ensures
    (locals_next g.S.PartSink.step c.args.locals.now c.loop-local.local-index c.local-item.result c.args.depth c.loop-local.sink c.loop-local-test.true c.local-item.is) c.loop-local.invariant

pub loop-local-preserved : goal.loop-local-preserved
loop-local-preserved g c =
    goes_by _ _ _ _ _ c.in_ok-visit_local.ensures
    (locals_next g.S.PartSink.step c.args.locals.now c.loop-local.local-index c.local-item.result c.args.depth c.loop-local.sink c.loop-local-test.true c.local-item.is) c.loop-local.invariant
