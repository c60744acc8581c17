use Rattle.std.proofs.Common.{Ok, Err, inl, inr, refl}
use Rattle.cli_roots.proofs.compare.compare_files.Goals as goal

pub returns-in_err-left : goal.returns-in_err-left
returns-in_err-left g c = (Err c.in_err-left.field-0.0, (c.in_err-left.ensures.refused, c.from_residual.ensures.1, refl))

pub returns-in_err-right : goal.returns-in_err-right
returns-in_err-right g c = (Ok c.in_ok-left.left.items, (Err c.in_err-right.field-0.0, (c.in_err-right.ensures.refused, c.from_residual-in_err-right.ensures.1, refl)))

pub returns-then-is_spent : goal.returns-then-is_spent
returns-then-is_spent g c = (Ok c.deref-left.result.now, (Ok c.deref-right.result.now, inl (c.is_spent.ensures c.if-is_spent.true, c.from.ensures, refl)))

pub returns-then-is_spent-2 : goal.returns-then-is_spent-2
returns-then-is_spent-2 g c = (Ok c.deref-left.result.now, (Ok c.deref-right.result.now, inr (inl (c.is_spent-2.ensures c.if-is_spent-2.true, c.from-then-is_spent-2.ensures, refl))))

pub returns : goal.returns
returns g c = (Ok c.deref-left.result.now, (Ok c.deref-right.result.now, inr (inr c.compare.ensures)))
