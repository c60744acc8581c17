use Rattle.std.proofs.Common.{◌∙◌}
use Rattle.sig_encoder.proofs.Steps.{as_it_must, not_as_it_must}
use Rattle.sig_encoder.proofs.items.visit_rule.Goals as goal

pub returns-then-holds : goal.returns-then-holds
returns-then-holds g c = as_it_must g.S.PartSink.step c.args.holds c.args.sink.now c.if-holds.true

pub returns : goal.returns
returns g c = c.broken.ensures ∙ not_as_it_must g.S.PartSink.step c.args.holds c.args.sink.now c.if-holds.false
