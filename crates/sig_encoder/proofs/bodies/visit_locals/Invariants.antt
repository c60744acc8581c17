use Rattle.sig_encoder.proofs.Prelude.{◌≡◌, map, drop, local_of, run, locals_items}
use Rattle.sig_encoder.proofs.bodies.visit_locals.Given as goal

abbrev pub invariant-loop-local : goal.invariant-loop-local
invariant-loop-local g l = run g.S.PartSink.step (locals_items (map local_of (drop l.local-index l.locals)) l.depth) l.sink ≡ run g.S.PartSink.step (locals_items (map local_of l.locals) l.depth) l.fn.sink
