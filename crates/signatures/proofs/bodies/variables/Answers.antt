use Rattle.signatures.proofs.Prelude.{◌∙◌, map, Option, List, ℕ, sym, subst, map-append, core_at, local_at, local_of, Fails}
use Rattle.sig_grammar.specs.Syntax.{LocalVariable}
use Rattle.signatures.proofs.Items.{failed, many_next, many_bad, many_end}
use Rattle.signatures.proofs.bodies.variables.Goals as goal

pub returns-in_err-one : goal.returns-in_err-one
returns-in_err-one c =
    let h = subst (λ (o : Option (List LocalVariable × List ℕ)). Fails c.in_err-one.field-0.0 o) c.loop-done.invariant (many_bad c.in_err-one.field-0.0 (local_at (core_at c.args.depth)) c.args.count c.loop-done.done c.loop-done.tail.now (map local_of c.loop-done.all.items) c.loop-done-test.true c.in_err-one.ensures) in
    failed _ _ _ _ c.from_residual-in_err-one.ensures h

pub loop-done-preserved : goal.loop-done-preserved
loop-done-preserved c =
    let e = many_next (local_at (core_at c.args.depth)) c.args.count c.loop-done.done c.loop-done.tail.now c.in_ok-one.next.now (map local_of c.loop-done.all.items) (local_of c.in_ok-one.one) c.loop-done-test.true c.in_ok-one.ensures in
    rw (c.in_ok-push.ensures.items) (simp map-append (sym e ∙ c.loop-done.invariant))

pub returns : goal.returns
returns c =
    sym c.loop-done.invariant ∙ many_end (local_at (core_at c.args.depth)) c.args.count c.loop-done.done c.loop-done.tail.now (map local_of c.loop-done.all.items) c.loop-done-test.false
