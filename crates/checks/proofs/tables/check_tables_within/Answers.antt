use Rattle.checks.proofs.Prelude.{◌++◌, inr, err_from_is_err_and, all_append, rules_of_cells, rules_of_rows, rules_of_signatures, rules_of_tables, text_bytes, walked_signature_bytes, IsSpent}
use Rattle.checks.proofs.Spending.{below_taken, taken_more_enough}
use Rattle.checks.proofs.Within.{tail_fails, weaker_fails}
use Rattle.checks.proofs.WholeTables.{cells_fail, rows_fail}
use Rattle.checks.proofs.tables.check_tables_within.Goals as goal

pub returns-in_err-check_cells-clause-reports : goal.returns-in_err-check_cells-clause-reports
returns-in_err-check_cells-clause-reports c =
    let p = err_from_is_err_and c.from_residual.result c.from_residual.ensures.1 in
    rw (p.1, p.2) (cells_fail c.args.source.now c.args.budget c.in_err-check_cells.field-0.0 c.in_err-check_cells.ensures.reports)

pub returns-in_err-check_rows-clause-reports : goal.returns-in_err-check_rows-clause-reports
returns-in_err-check_rows-clause-reports c =
    let p = err_from_is_err_and c.from_residual-in_err-check_rows.result c.from_residual-in_err-check_rows.ensures.1 in
    rw (p.1, p.2) (rows_fail c.args.source.now c.in_err-check_rows.field-0.0 c.in_ok-check_cells.ensures.reports c.in_err-check_rows.ensures)

pub returns-in_err-check_signatures-clause-reports : goal.returns-in_err-check_signatures-clause-reports
unfolding rules_of_tables
returns-in_err-check_signatures-clause-reports c =
    let p = err_from_is_err_and c.from_residual-in_err-check_signatures.result c.from_residual-in_err-check_signatures.ensures.1 in
    let here = c.args.source.now in
    let cells = c.in_ok-check_cells.ensures in
    let rows = c.in_ok-check_rows.ensures in
    let spent = IsSpent c.args.budget here in
    let error = c.in_err-check_signatures.field-0.0 in
    let reported = weaker_fails _ spent (rules_of_signatures here) error
    (λ below. (
      below_taken c.args.budget c.check_cells.new.budget (text_bytes here.source) (walked_signature_bytes here.source) cells.takes below,
      inr (record { cells = cells.reports; rows = rows }),
    )) c.in_err-check_signatures.ensures.reports in
    rw (p.1, p.2) (tail_fails spent (rules_of_cells here) (rules_of_rows here ++ rules_of_signatures here) error cells.reports
    (tail_fails spent (rules_of_rows here) (rules_of_signatures here) error rows reported))

pub returns-clause-reports : goal.returns-clause-reports
unfolding rules_of_tables
returns-clause-reports c =
    let here = c.args.source.now in
    all_append (rules_of_cells here) (rules_of_rows here ++ rules_of_signatures here) c.in_ok-check_cells.ensures.reports
    (all_append (rules_of_rows here) (rules_of_signatures here) c.in_ok-check_rows.ensures c.in_ok-check_signatures.ensures.reports)

pub returns-clause-enough : goal.returns-clause-enough
returns-clause-enough c =
    let source = c.args.source.now.source in
    taken_more_enough c.args.budget c.check_cells.new.budget (text_bytes source) (walked_signature_bytes source) c.in_ok-check_cells.ensures.takes c.in_ok-check_signatures.ensures.enough
