use Rattle.sig_text.proofs.Prelude.{arith, ◌≡◌, ◌∙◌, sym, refl, ap, None, Some, mark_at, marks_in}
use Rattle.sig_text.proofs.MarksShown.{marks_next, marks_end}
use Rattle.sig_text.proofs.marks.first_marks.Goals as goal

pub loop-count-init : goal.loop-count-init
unfolding marks_in
loop-count-init c = refl

pub returns-in-None-clause-count : goal.returns-in-None-clause-count
returns-in-None-clause-count c = let e : mark_at (marks_in c.loop-count.count c.args.bytes.now).1 ≡ None = rw (← c.loop-count.invariant) (sym c.in-None.ensures) in sym (marks_end c.loop-count.count c.args.most c.args.bytes.now e (omega arith))

pub returns-in-None-clause-tail : goal.returns-in-None-clause-tail
returns-in-None-clause-tail c = let e : mark_at (marks_in c.loop-count.count c.args.bytes.now).1 ≡ None = rw (← c.loop-count.invariant) (sym c.in-None.ensures) in c.loop-count.invariant ∙ sym (ap (λ x. x.1) (marks_end c.loop-count.count c.args.most c.args.bytes.now e (omega arith)))

pub loop-count-preserved : goal.loop-count-preserved
loop-count-preserved c = let e : mark_at (marks_in c.loop-count.count c.args.bytes.now).1 ≡ Some (c.in-Some.field-0-0, c.in-Some.next.now) = rw (← c.loop-count.invariant) (sym c.in-Some.ensures) in sym (marks_next c.loop-count.count c.args.bytes.now c.in-Some.field-0-0 c.in-Some.next.now e)

pub returns-clause-tail : goal.returns-clause-tail
returns-clause-tail c = let e : c.loop-count.count ≡ c.args.most = omega arith in rw (← e) c.loop-count.invariant
