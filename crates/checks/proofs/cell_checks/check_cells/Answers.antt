use Rattle.checks.proofs.Prelude.{List, Err, get_or, ap, err_from_is_err_and, TableId, Module}
use Rattle.checks.proofs.Broken.{row_reports}
use Rattle.checks.proofs.SpendingTexts.{all_taken, before_taken}
use Rattle.checks.proofs.cell_checks.check_cells.Goals as goal

pub returns-in_default-clause-texts : goal.returns-in_default-clause-texts
returns-in_default-clause-texts c = λ spent.
    absurd (all_taken c.args.source.now c.args.budget.now c.first_broken_within.new.budget (rw c.in_default.is at c.in_ok-broken.ensures.takes) spent)

pub returns-in_err-check_row-clause-reports : goal.returns-in_err-check_row-clause-reports
returns-in_err-check_row-clause-reports c =
    let p = err_from_is_err_and c.from_residual-in_err-check_row.result c.from_residual-in_err-check_row.ensures.1 in
    let is = rw c.in-Some.is at c.in_ok-broken.ensures.first in
    rw (p.1, p.2) (row_reports {X = Unit {0}} c.args.source.now c.in-Some.broken _ (Err c.in_err-check_row.field-0.0) is
    (ap (λ (l : List TableId). get_or l c.in-Some.broken.table_index Module) c.all.ensures.value) c.in_err-check_row.ensures)

pub returns-in_err-check_row-clause-texts : goal.returns-in_err-check_row-clause-texts
returns-in_err-check_row-clause-texts c = λ spent.
    let is = rw c.in-Some.is at c.in_ok-broken.ensures.first in
    absurd (before_taken c.args.source.now c.in-Some.broken is c.args.budget.now c.first_broken_within.new.budget (rw c.in-Some.is at c.in_ok-broken.ensures.takes) spent)
