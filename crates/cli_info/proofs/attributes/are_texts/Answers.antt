use Rattle.cli_info.proofs.attributes.are_texts.Goals as goal

pub loop-item-init : goal.loop-item-init
loop-item-init c = rw (← c.in-Some.ensures.read, c.into_iter-item-iterator.ensures.into_iter_gives)

pub returns-then-not-is_text : goal.returns-then-not-is_text
returns-then-not-is_text c = rw (c.in-Some-item.ensures.steps, ← c.is_text.ensures, c.if-not-is_text.true) at c.loop-item.invariant

pub loop-item-preserved : goal.loop-item-preserved
loop-item-preserved c = rw (c.in-Some-item.ensures.steps, ← c.is_text.ensures, c.if-not-is_text.false) at c.loop-item.invariant

pub returns : goal.returns
returns c = rw c.in-None.ensures.steps.0 at c.loop-item.invariant
