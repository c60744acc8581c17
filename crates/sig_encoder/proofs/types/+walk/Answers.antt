use Rattle.std.proofs.Common.{refl, sym, ◌∙◌}
use Rattle.sig_encoder.proofs.Steps.{on_both, on_one, off_both, off_one}
use Rattle.sig_encoder.proofs.Forms.{method_reported}
use Rattle.sig_encoder.proofs.Loops.{goes_by, stops_by, types_next, params_next}
use Rattle.sig_encoder.proofs.types.+walk.Goals as goal

pub visit_types-returns-in_err-visit_typed : goal.visit_types-returns-in_err-visit_typed
visit_types-returns-in_err-visit_typed g t c =
    stops_by _ _ _ _ _ _ c.from_residual.ensures c.in_err-visit_typed.ensures
    (types_next g.S.PartSink.step c.args.types.now c.loop-of.of-index c.of-item.result c.args.depth c.loop-of.sink c.loop-of-test.true c.of-item.is) c.loop-of.invariant

pub visit_types-loop-of-preserved : goal.visit_types-loop-of-preserved
visit_types-loop-of-preserved g t c =
    goes_by _ _ _ _ _ c.in_ok-visit_typed.ensures
    (types_next g.S.PartSink.step c.args.types.now c.loop-of.of-index c.of-item.result c.args.depth c.loop-of.sink c.loop-of-test.true c.of-item.is) c.loop-of.invariant

pub visit_params-returns-in_err-visit_param : goal.visit_params-returns-in_err-visit_param
visit_params-returns-in_err-visit_param g t c =
    stops_by _ _ _ _ _ _ c.from_residual.ensures c.in_err-visit_param.ensures
    (params_next g.S.PartSink.step c.args.params.now c.loop-param_index.param_index c.index-params-param_index.result c.args.sentinel c.args.depth c.loop-param_index.sink _ c.loop-param_index-test.true c.index-params-param_index.is c.stands_before.ensures) c.loop-param_index.invariant

pub visit_params-loop-param_index-preserved : goal.visit_params-loop-param_index-preserved
visit_params-loop-param_index-preserved g t c =
    goes_by _ _ _ _ _ c.in_ok-visit_param.ensures
    (params_next g.S.PartSink.step c.args.params.now c.loop-param_index.param_index c.index-params-param_index.result c.args.sentinel c.args.depth c.loop-param_index.sink _ c.loop-param_index-test.true c.index-params-param_index.is c.stands_before.ensures) c.loop-param_index.invariant

pub visit_method-returns-in_err-visit_rule : goal.visit_method-returns-in_err-visit_rule
visit_method-returns-in_err-visit_rule g t c =
    off_both g.S.PartSink.step _ _ _ _ _ _ c.from_residual.ensures c.in_err-visit_rule.ensures
    (method_reported g.S.PartSink.step c.args.depth c.args.sink.now c.args.method.now _ _ _ _ _ c.deref.ensures.value c.can_be.ensures refl refl refl)

pub visit_method-returns-in_err-byte : goal.visit_method-returns-in_err-byte
visit_method-returns-in_err-byte g t c =
    off_one g.S.PartSink.step _ _ _ _ _ _ c.from_residual-in_err-byte.ensures c.in_err-byte.ensures
    (on_both g.S.PartSink.step _ _ _ _ _ c.in_ok-visit_rule.ensures
    (method_reported g.S.PartSink.step c.args.depth c.args.sink.now c.args.method.now _ _ _ _ _ c.deref.ensures.value c.can_be.ensures c.first_byte.ensures refl refl))

pub visit_method-returns-in_err-visit_generic : goal.visit_method-returns-in_err-visit_generic
visit_method-returns-in_err-visit_generic g t c =
    off_both g.S.PartSink.step _ _ _ _ _ _ c.from_residual-in_err-visit_generic.ensures c.in_err-visit_generic.ensures
    (on_one g.S.PartSink.step _ _ _ _ _ c.in_ok-byte.ensures
    (on_both g.S.PartSink.step _ _ _ _ _ c.in_ok-visit_rule.ensures
    (method_reported g.S.PartSink.step c.args.depth c.args.sink.now c.args.method.now _ _ _ _ _ c.deref.ensures.value c.can_be.ensures c.first_byte.ensures refl refl)))

pub visit_method-returns-in_err-number : goal.visit_method-returns-in_err-number
visit_method-returns-in_err-number g t c =
    off_one g.S.PartSink.step _ _ _ _ _ _ c.from_residual-in_err-number.ensures c.in_err-number.ensures
    (on_both g.S.PartSink.step _ _ _ _ _ c.in_ok-visit_generic.ensures
    (on_one g.S.PartSink.step _ _ _ _ _ c.in_ok-byte.ensures
    (on_both g.S.PartSink.step _ _ _ _ _ c.in_ok-visit_rule.ensures
    (method_reported g.S.PartSink.step c.args.depth c.args.sink.now c.args.method.now _ _ _ _ _ c.deref.ensures.value c.can_be.ensures c.first_byte.ensures (c.len.ensures ∙ sym c.deref.ensures.len) refl))))

pub visit_method-returns-in_err-visit_ret : goal.visit_method-returns-in_err-visit_ret
visit_method-returns-in_err-visit_ret g t c =
    off_both g.S.PartSink.step _ _ _ _ _ _ c.from_residual-in_err-visit_ret.ensures c.in_err-visit_ret.ensures
    (on_one g.S.PartSink.step _ _ _ _ _ c.in_ok-number.ensures
    (on_both g.S.PartSink.step _ _ _ _ _ c.in_ok-visit_generic.ensures
    (on_one g.S.PartSink.step _ _ _ _ _ c.in_ok-byte.ensures
    (on_both g.S.PartSink.step _ _ _ _ _ c.in_ok-visit_rule.ensures
    (method_reported g.S.PartSink.step c.args.depth c.args.sink.now c.args.method.now _ _ _ _ _ c.deref.ensures.value c.can_be.ensures c.first_byte.ensures (c.len.ensures ∙ sym c.deref.ensures.len) refl)))))

pub visit_method-returns : goal.visit_method-returns
visit_method-returns g t c =
    c.visit_params.ensures ∙
    (on_both g.S.PartSink.step _ _ _ _ _ c.in_ok-visit_ret.ensures
    (on_one g.S.PartSink.step _ _ _ _ _ c.in_ok-number.ensures
    (on_both g.S.PartSink.step _ _ _ _ _ c.in_ok-visit_generic.ensures
    (on_one g.S.PartSink.step _ _ _ _ _ c.in_ok-byte.ensures
    (on_both g.S.PartSink.step _ _ _ _ _ c.in_ok-visit_rule.ensures
    (method_reported g.S.PartSink.step c.args.depth c.args.sink.now c.args.method.now _ _ _ _ _ c.deref.ensures.value c.can_be.ensures c.first_byte.ensures (c.len.ensures ∙ sym c.deref.ensures.len) c.deref-2.ensures.value))))))
