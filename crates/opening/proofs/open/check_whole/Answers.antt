use Rattle.std.proofs.lemmas.Result.{err_from_is_err_and}
use Rattle.opening.proofs.SourceAt.{root_fails}
use Rattle.opening.proofs.open.check_whole.Goals as goal

pub returns-in_err-directory-clause-reports : goal.returns-in_err-directory-clause-reports
returns-in_err-directory-clause-reports c =
    let p = err_from_is_err_and c.from_residual.result c.from_residual.ensures.1 in
    rw (p.1, p.2) (root_fails c.args.root.now 0 c.in_err-directory.field-0.0 c.in_err-directory.ensures.reports)
