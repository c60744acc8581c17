use Rattle.std.proofs.lemmas.Result.{err_from_is_err_and}
use Rattle.checks.proofs.texts.end_of_text.Goals as goal

pub returns-in_err-text-clause-reports : goal.returns-in_err-text-clause-reports
returns-in_err-text-clause-reports c = λ offset.
    let p = err_from_is_err_and c.from_residual.result c.from_residual.ensures.1 in
    rw (p.1, p.2) (c.in_err-text.ensures.reports offset)
