use Rattle.signatures.proofs.Prelude.{◌≡◌, ◌∙◌, sym, Option, List, ℕ, subst, false, Modifier, modifier_at, modifiers_at, starts_modifier, Fails, modifier_steps}
use Rattle.signatures.proofs.Items.{failed, given, head_next, head_end, head_bad, item_shorter}
use Rattle.signatures.proofs.modifiers.modifiers.Goals as goal

pub returns-in_err-one : goal.returns-in_err-one
unfolding modifiers_at
returns-in_err-one c =
    let bad = given _ _ _ _ c.modifier.ensures c.in_err-one.ensures.value in
    let h = subst (λ (o : Option (List Modifier × List ℕ)). Fails c.in_err-one.field-0.0 o) c.loop-tail.invariant (head_bad modifier_at starts_modifier modifier_steps c.in_err-one.field-0.0 c.loop-tail.tail.now c.loop-tail.all.items bad) in
    failed _ _ _ _ c.from_residual.ensures h

pub loop-tail-smaller : goal.loop-tail-smaller
loop-tail-smaller c =
    let found = given _ _ _ _ c.modifier.ensures c.in_ok-one.ensures.value in
    item_shorter modifier_at starts_modifier modifier_steps c.loop-tail.tail.now c.in_ok-one.next.now c.in_ok-one.one found

pub loop-tail-preserved : goal.loop-tail-preserved
unfolding modifiers_at
loop-tail-preserved c =
    let found = given _ _ _ _ c.modifier.ensures c.in_ok-one.ensures.value in
    let e = head_next modifier_at starts_modifier modifier_steps c.loop-tail.tail.now c.in_ok-one.next.now c.loop-tail.all.items c.in_ok-one.one found in
    rw (c.in_ok-push.ensures.items) (sym e ∙ c.loop-tail.invariant)

pub returns : goal.returns
unfolding modifiers_at
returns c =
    let stops : starts_modifier c.loop-tail.tail.now ≡ false = sym c.has_modifier.ensures ∙ c.loop-tail-test.false in
    sym c.loop-tail.invariant ∙ head_end modifier_at starts_modifier modifier_steps c.loop-tail.tail.now c.loop-tail.all.items stops
