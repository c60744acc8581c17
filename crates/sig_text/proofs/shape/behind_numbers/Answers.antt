use Rattle.std.proofs.Common.{arith, ◌≡◌, ◌∙◌, sym, ap, ◌<◌, ◌-◌, ◌+◌}
use Rattle.sig_text.proofs.ShapeShown.{behind_more, behind_end}
use Rattle.sig_text.proofs.shape.behind_numbers.Goals as goal

pub loop-done-preserved : goal.loop-done-preserved
loop-done-preserved c = let lt : 0 < c.args.count - c.loop-done.done = omega arith in let e : c.args.count - (c.loop-done.done + 1) ≡ c.args.count - c.loop-done.done - 1 = omega arith in rw (e, ap (λ x. x.1) c.number.ensures) (sym (behind_more (c.args.count - c.loop-done.done) c.loop-done.tail.now lt) ∙ c.loop-done.invariant)

pub returns : goal.returns
returns c = let e : c.args.count - c.loop-done.done ≡ 0 = omega arith in sym (behind_end (c.args.count - c.loop-done.done) c.loop-done.tail.now e) ∙ c.loop-done.invariant
