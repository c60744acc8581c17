use Rattle.cli_roots.proofs.Prelude.{Ok, Err, None, Some, inl, inr, refl, err_from_is_err_and}
use Rattle.cli_roots.proofs.embed.embed_file.Goals as goal

pub returns-in_err-check_path : goal.returns-in_err-check_path
returns-in_err-check_path g c =
    let p = err_from_is_err_and c.from_residual.result c.from_residual.ensures.1 in
    inr (rw p.1 (c.in_err-check_path.field-0.0, p.2, c.in_err-check_path.ensures), refl)

pub returns-in_err-bytes : goal.returns-in_err-bytes
returns-in_err-bytes g c = inl (Err c.in_err-bytes.field-0.0, (c.in_err-bytes.ensures.refused, c.from_residual-in_err-bytes.ensures.1, refl))

pub returns-in_err-root-in-None : goal.returns-in_err-root-in-None
returns-in_err-root-in-None g c =
    let it = c.in_err-root-in-None in
    let p = err_from_is_err_and c.from_residual-in_err-root-in-None.result c.from_residual-in_err-root-in-None.ensures.1 in
    inl (Ok c.deref-bytes.result.now, rw (c.in-None.is, p.1) (record { done = tt; stopped = (it.field-0.0, p.2, inl (it.ensures.first_error, refl)) }, λ fresh. refl))

pub returns-in-None : goal.returns-in-None
returns-in-None g c =
    inl (Ok c.deref-bytes.result.now, rw c.in-None.is (c.put.ensures.run None (rw (← c.bytes.ensures) at c.in_ok-root-in-None.ensures.sound), c.put.ensures.quiet))

pub returns-in_err-root-in-Some : goal.returns-in_err-root-in-Some
returns-in_err-root-in-Some g c =
    let it = c.in_err-root-in-Some in
    inl (Ok c.deref-bytes.result.now, rw c.in-Some.is (Err it.field-0.0, (it.ensures.refused, c.from_residual-in_err-root-in-Some.ensures.1, refl)))

pub returns : goal.returns
returns g c =
    let root = c.deref.result.now in
    inl (Ok c.deref-bytes.result.now, rw c.in-Some.is (Ok root, (c.put-in-Some.ensures.run (Some root) refl, c.put-in-Some.ensures.quiet)))
