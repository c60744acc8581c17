use Rattle.std.proofs.lemmas.Result.{err_from_is_err_and}
use Rattle.opening.proofs.open.read_source.Goals as goal

pub returns-in_err-parts-clause-reports : goal.returns-in_err-parts-clause-reports
returns-in_err-parts-clause-reports c =
    let p = err_from_is_err_and c.from_residual.result c.from_residual.ensures.1 in
    rw (p.1, p.2) c.in_err-parts.ensures.broken
