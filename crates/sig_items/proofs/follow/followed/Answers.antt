use Rattle.sig_items.proofs.Prelude.{◌∙◌, Some, None, Option, List, ap, sym, subst, Position, Frame, pushed, all_at, IsStacked}
use Rattle.sig_items.proofs.Stacks.{all_next, stacked_pushed, advanced_roomy}
use Rattle.sig_items.proofs.follow.followed.Goals as goal

pub resumed-requires : goal.resumed-requires
resumed-requires c =
    subst (λ (t : List Frame). IsStacked 0 t) (sym c.push.ensures) (stacked_pushed c.args.step.frame c.args.frames.now c.requires.stacked c.requires.room.frame)

pub returns-in-Some-clause-reported : goal.returns-in-Some-clause-reported
returns-in-Some-clause-reported c =
    ap (λ (t : List Frame). all_at (Some c.in-Some.position) t c.args.step.tail.now) c.push.ensures
    ∙ ap (λ (p : Option Position). all_at p (pushed c.args.step.frame c.args.frames.now) c.args.step.tail.now) (sym c.in-Some.is)
    ∙ all_next c.args.step.frame c.args.step.position c.args.frames.now c.args.step.tail.now

pub returns-in-Some-clause-roomy : goal.returns-in-Some-clause-roomy
returns-in-Some-clause-roomy c = advanced_roomy c.args.frames.now c.push.new.frames c.args.step c.in-Some.position c.requires.stacked c.requires.room c.in-Some.is c.push.ensures

pub returns-in-None-clause-reported : goal.returns-in-None-clause-reported
returns-in-None-clause-reported c =
    c.resumed.ensures.reported
    ∙ ap (λ (t : List Frame). all_at None t c.args.step.tail.now) c.push.ensures
    ∙ ap (λ (p : Option Position). all_at p (pushed c.args.step.frame c.args.frames.now) c.args.step.tail.now) (sym c.in-None.is)
    ∙ all_next c.args.step.frame c.args.step.position c.args.frames.now c.args.step.tail.now
