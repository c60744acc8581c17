use Rattle.std.proofs.Common.{◌∙◌, sym, ℕ, ℤ, SFits, w32, Option, List, subst, rules}
use Rattle.signatures.proofs.Prelude.{to_z-of_z, signed_at, Fails}
use Rattle.signatures.proofs.Items.{failed, many_next, many_bad, many_end}
use Rattle.signatures.proofs.shape.signed_numbers.Goals as goal

pub returns-in_err-one : goal.returns-in_err-one
returns-in_err-one c =
    let h = subst (λ (o : Option (List ℤ × List ℕ)). Fails c.in_err-one.field-0.0 o) c.loop-done.invariant (many_bad c.in_err-one.field-0.0 signed_at c.args.count c.loop-done.done c.loop-done.tail.now c.loop-done.all.items c.loop-done-test.true c.in_err-one.ensures) in
    failed _ _ _ _ c.from_residual-in_err-one.ensures h

pub loop-done-preserved : goal.loop-done-preserved
loop-done-preserved c =
    let e = many_next signed_at c.args.count c.loop-done.done c.loop-done.tail.now c.in_ok-one.next.now c.loop-done.all.items c.in_ok-one.one c.loop-done-test.true c.in_ok-one.ensures in
    let fits : SFits w32 c.in_ok-one.one = search rules in
    rw (c.in_ok-push.ensures.items, to_z-of_z w32 c.in_ok-one.one fits) (sym e ∙ c.loop-done.invariant)

pub returns : goal.returns
returns c =
    sym c.loop-done.invariant ∙ many_end signed_at c.args.count c.loop-done.done c.loop-done.tail.now c.loop-done.all.items c.loop-done-test.false
