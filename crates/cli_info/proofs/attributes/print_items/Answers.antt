use Rattle.cli_info.proofs.attributes.print_items.Goals as goal

pub returns-in_default : goal.returns-in_default
returns-in_default g c = rw c.in_default.ensures.steps.0 (c.parts_follow.ensures.nothing _)

pub loop-item-init : goal.loop-item-init
loop-item-init g c = λ later adds.
    rw c.in-Some.ensures.steps (c.parts_follow.ensures.more _ _ _ _ _ c.print_first.ensures (rw c.into_iter-item-iterator.ensures.into_iter_gives at adds))

pub loop-item-preserved : goal.loop-item-preserved
loop-item-preserved g c = λ later adds.
    c.loop-item.invariant later (rw c.in-Some-item.ensures.steps (c.parts_follow.ensures.more _ _ _ _ _ c.print_item.ensures adds))

pub returns : goal.returns
returns g c = c.loop-item.invariant c.loop-item.out (rw c.in-None.ensures.steps.0 (c.parts_follow.ensures.nothing _))
