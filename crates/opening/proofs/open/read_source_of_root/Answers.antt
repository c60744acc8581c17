use Rattle.std.proofs.lemmas.Result.{err_from_is_err_and}
use Rattle.opening.proofs.SourceAt.{directory_breaks, before_cells_report}
use Rattle.opening.proofs.open.read_source_of_root.Goals as goal

pub returns-in_err-directory-clause-reports : goal.returns-in_err-directory-clause-reports
returns-in_err-directory-clause-reports c =
    let p = err_from_is_err_and c.from_residual.result c.from_residual.ensures.1 in
    rw (p.1, p.2) (directory_breaks c.args.root.now 0 c.in_err-directory.field-0.0 c.in_err-directory.ensures.reports)

pub returns-clause-reports : goal.returns-clause-reports
returns-clause-reports c = before_cells_report c.args.root.now 0 c.read_source.result c.in_ok-directory.ensures.reports c.read_source.ensures.reports
