use Rattle.sig_encoder.proofs.Prelude.{◌≡◌, map, drop, type_of, types_from, slot_of, slots_from, run, types_items, slots_items, behind}
use Rattle.sig_encoder.proofs.types.+walk.Given as goal

abbrev pub invariant-visit_types-loop-of : goal.invariant-visit_types-loop-of
invariant-visit_types-loop-of g l =
    run g.S.PartSink.step (types_items (types_from (map type_of (drop l.of-index l.types))) l.depth) l.sink ≡ run g.S.PartSink.step (types_items (types_from (map type_of l.types)) l.depth) l.fn.sink

abbrev pub invariant-visit_params-loop-param_index : goal.invariant-visit_params-loop-param_index
invariant-visit_params-loop-param_index g l =
    run g.S.PartSink.step (slots_items (slots_from (map slot_of (drop l.param_index l.params))) (behind l.sentinel l.param_index) l.depth) l.sink
    ≡ run g.S.PartSink.step (slots_items (slots_from (map slot_of l.params)) l.sentinel l.depth) l.fn.sink
