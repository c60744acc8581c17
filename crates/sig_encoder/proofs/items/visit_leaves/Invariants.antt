use Rattle.sig_encoder.proofs.Prelude.{◌≡◌, drop, list_parts, run, parts_items}
use Rattle.sig_encoder.proofs.items.visit_leaves.Given as goal

abbrev pub invariant-loop-leaf : goal.invariant-loop-leaf
invariant-loop-leaf g l = run g.S.PartSink.step (parts_items (list_parts g.T.Leaf.parts (drop l.leaf-index l.leaves))) l.sink ≡ run g.S.PartSink.step (parts_items (list_parts g.T.Leaf.parts l.leaves)) l.fn.sink
