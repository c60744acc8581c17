use Rattle.cli_roots.proofs.Prelude.{err_from_is_err_and, Ok, Err, inl, inr, refl}
use Rattle.cli_roots.proofs.rewrite.rewrite_file.Goals as goal

pub returns-in_err-check_path : goal.returns-in_err-check_path
returns-in_err-check_path g c =
    let p = err_from_is_err_and c.from_residual.result c.from_residual.ensures.1 in
    inr (rw p.1 (c.in_err-check_path.field-0.0, p.2, c.in_err-check_path.ensures), refl)

pub returns-in_err-read : goal.returns-in_err-read
returns-in_err-read g c = inl (Err c.in_err-read.field-0.0, (c.in_err-read.ensures.refused, c.from_residual-in_err-read.ensures.1, refl))

pub returns-then-is_spent : goal.returns-then-is_spent
returns-then-is_spent g c = inl (Ok c.deref-bytes.result.now, inl (c.is_spent.ensures c.if-is_spent.true, c.from.ensures, refl))

pub returns-in-Ok : goal.returns-in-Ok
returns-in-Ok g c = inl (Ok c.deref-bytes.result.now, inr (record { done = c.in-Ok.ensures.done; stopped = tt; hint = tt }))

pub returns : goal.returns
returns g c =
    inl (
      Ok c.deref-bytes.result.now,
      inr (record { done = tt; stopped = (c.in-Err.failure, c.at.ensures.stop, c.in-Err.ensures.stopped); hint = rw c.at.ensures.stop c.at.ensures.hint }),
    )
