use Rattle.signatures.proofs.Prelude.{◌≡◌, ◌∙◌, sym, Option, List, ℕ, subst, false, prefix_at, prefixes_at, starts_prefix, Fails, prefix_steps}
use Rattle.sig_grammar.specs.declared.body.Prefix.{Prefix}
use Rattle.signatures.proofs.Items.{failed, given, head_next, head_end, head_bad, item_shorter}
use Rattle.signatures.proofs.modifiers.prefixes.Goals as goal

pub returns-in_err-one : goal.returns-in_err-one
unfolding prefixes_at
returns-in_err-one c =
    let bad = given _ _ _ _ c.prefix.ensures c.in_err-one.ensures.value in
    let h = subst (λ (o : Option (List Prefix × List ℕ)). Fails c.in_err-one.field-0.0 o) c.loop-tail.invariant (head_bad prefix_at starts_prefix prefix_steps c.in_err-one.field-0.0 c.loop-tail.tail.now c.loop-tail.all.items bad) in
    failed _ _ _ _ c.from_residual.ensures h

pub loop-tail-smaller : goal.loop-tail-smaller
loop-tail-smaller c =
    let found = given _ _ _ _ c.prefix.ensures c.in_ok-one.ensures.value in
    item_shorter prefix_at starts_prefix prefix_steps c.loop-tail.tail.now c.in_ok-one.next.now c.in_ok-one.one found

pub loop-tail-preserved : goal.loop-tail-preserved
unfolding prefixes_at
loop-tail-preserved c =
    let found = given _ _ _ _ c.prefix.ensures c.in_ok-one.ensures.value in
    let e = head_next prefix_at starts_prefix prefix_steps c.loop-tail.tail.now c.in_ok-one.next.now c.loop-tail.all.items c.in_ok-one.one found in
    rw (c.in_ok-push.ensures.items) (sym e ∙ c.loop-tail.invariant)

pub returns : goal.returns
unfolding prefixes_at
returns c =
    let stops : starts_prefix c.loop-tail.tail.now ≡ false = sym c.has_prefix.ensures ∙ c.loop-tail-test.false in
    sym c.loop-tail.invariant ∙ head_end prefix_at starts_prefix prefix_steps c.loop-tail.tail.now c.loop-tail.all.items stops
