use Rattle.sig_items.proofs.Prelude.{◌∙◌, Some, List, ap, Frame, all_at}
use Rattle.sig_items.proofs.Stacks.{stacked_pop, resumed_fits, resumed_reported, resumed_roomy}
use Rattle.sig_items.proofs.follow.resumed.Goals as goal

pub push-requires : goal.push-requires
push-requires c =
    let room = stacked_pop c.args.frames.now c.pop.new.self c.in_ok-pop.field-0 c.in_ok-pop.ensures c.requires in
    resumed_fits c.pop.new.self c.in_ok-pop.field-0 c.opened-further.result.0 room.1 c.opened-further.ensures.frame

pub returns-clause-reported : goal.returns-clause-reported
returns-clause-reported c =
    ap (λ (t : List Frame). all_at (Some c.opened-further.result.1) t c.args.bytes.now) c.push.ensures
    ∙ resumed_reported c.args.frames.now c.pop.new.self c.in_ok-pop.field-0 c.opened-further.result.0 c.opened-further.result.1 c.args.bytes.now c.in_ok-pop.ensures c.opened-further.ensures.reported

pub returns-clause-roomy : goal.returns-clause-roomy
returns-clause-roomy c =
    resumed_roomy c.args.frames.now c.pop.new.self c.push.new.frames c.in_ok-pop.field-0 c.opened-further.result.0 c.opened-further.result.1 c.in_ok-pop.ensures c.requires c.opened-further.ensures.frame c.opened-further.ensures.position c.push.ensures
