use Rattle.opening.proofs.Prelude.{ap, sym, subst, err_from_is_err_and, Source, SourceAt, IsBelow, ReportsOrder, TextsSpend, counted_bytes, BudgetSpent, user_of}
use Rattle.opening.proofs.Parts.{same_error, ok_has_none}
use Rattle.opening.proofs.SourceAt.{tables_fail_within, metadata_holds, stream_breaks_first}
use Rattle.opening.proofs.open.check_root_within.Goals as goal

pub returns-in_err-in_order-clause-reports : goal.returns-in_err-in_order-clause-reports
returns-in_err-in_order-clause-reports c =
    let p = err_from_is_err_and c.from_residual-in_err-in_order.result c.from_residual-in_err-in_order.ensures.1 in
    rw (p.1, p.2) (tables_fail_within c.args.root.now c.args.offset c.in_ok-parts.parts.source c.in_ok-parts.ensures.source c.requires.held c.in_ok-parts.ensures.stream c.args.budget c.in_err-in_order.field-0.0 c.in_err-in_order.ensures.reports)

pub returns-clause-reports : goal.returns-clause-reports
returns-clause-reports c =
    metadata_holds c.args.root.now c.args.offset c.in_ok-parts.parts.source c.in_ok-parts.ensures.source c.requires.held c.in_ok-parts.ensures.stream c.in_ok-in_order.ensures.reports

pub returns-clause-checked : goal.returns-clause-checked
unfolding user_of
returns-clause-checked c =
    let same = ap (λ (s : SourceAt). s.source) c.in_ok-parts.ensures.source in
    record {
      source = same;
      version = c.in_ok-parts.ensures.version;
      user = c.in_ok-parts.ensures.user;
      order = subst (λ (s : Source). ReportsOrder s c.in_ok-in_order.in_order) same c.in_ok-in_order.ensures.order;
    }

pub returns-in_err-parts-clause-texts : goal.returns-in_err-parts-clause-texts
returns-in_err-parts-clause-texts c = λ spent. absurd (stream_breaks_first c.args.root.now c.args.offset c.args.budget c.in_err-parts.field-0.0 c.in_err-parts.ensures.broken spent)

pub returns-in_err-in_order-clause-texts : goal.returns-in_err-in_order-clause-texts
returns-in_err-in_order-clause-texts c =
    let p = err_from_is_err_and c.from_residual-in_err-in_order.result c.from_residual-in_err-in_order.ensures.1 in
    rw (p.1, p.2) (λ spent. same_error c.in_err-in_order.field-0.0 BudgetSpent (c.in_err-in_order.ensures.texts (subst (TextsSpend c.args.budget) (sym c.in_ok-parts.ensures.source) spent.1)))

pub returns-clause-texts : goal.returns-clause-texts
returns-clause-texts c = λ spent. absurd (ok_has_none c.in_ok-in_order.in_order BudgetSpent (c.in_ok-in_order.ensures.texts (subst (TextsSpend c.args.budget) (sym c.in_ok-parts.ensures.source) spent.1)))

pub returns-clause-enough : goal.returns-clause-enough
returns-clause-enough c =
    subst (λ (s : SourceAt). ¬ IsBelow c.args.budget (counted_bytes s.source)) c.in_ok-parts.ensures.source c.in_ok-in_order.ensures.enough
