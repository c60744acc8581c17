use Rattle.cli_roots.proofs.Prelude.{inr, err_from_is_err_and}
use Rattle.cli_roots.specs.Rewritten.{wrote_text}
use Rattle.cli_roots.proofs.rewrite.rewrite.Goals as goal

pub returns-in_err-print_one-clause-stopped : goal.returns-in_err-print_one-clause-stopped
unfolding wrote_text
returns-in_err-print_one-clause-stopped g c =
    let p = err_from_is_err_and c.from_residual-in_err-print_one.result c.from_residual-in_err-print_one.ensures.1 in
    let root = c.in_ok-root in
    let it = c.in_err-print_one in
    rw (p.1, p.2)
    (inr (it.ensures.failed, (root.root, root.ensures.sound, rw (← c.bytes.ensures) (c.in_ok-write_file.field-0, c.in_ok-write_file.ensures.given), rw c.len.ensures at it.ensures.sent)))

pub returns-clause-done : goal.returns-clause-done
unfolding wrote_text
returns-clause-done g c =
    let root = c.in_ok-root in
    (root.root, root.ensures.sound, rw (← c.bytes.ensures) (c.in_ok-write_file.field-0, c.in_ok-write_file.ensures.given), rw c.len.ensures at c.in_ok-print_one.ensures.sent)
