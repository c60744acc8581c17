use Rattle.root.proofs.Prelude.{err_from_is_err_and, rules_from, all_append, fails_prefix, fails_back, rules_of_root_header, rules_of_header, rules_of_tables, header_count}
use Rattle.root.proofs.WalkLemmas.{shows_from_all}
use Rattle.root.proofs.RootLemmas.{within_from_all}
use Rattle.root.proofs.root.check_root.Goals as goal

pub returns-in_err-root_header-clause-reports : goal.returns-in_err-root_header-clause-reports
returns-in_err-root_header-clause-reports c =
    let p = err_from_is_err_and c.from_residual.result c.from_residual.ensures.1 in
    rw (p.1, p.2) (fails_prefix (rules_of_root_header c.args.bytes.now) _ c.in_err-root_header.field-0.0 c.in_err-root_header.ensures.reports)

pub returns-in_err-check_headers-clause-reports : goal.returns-in_err-check_headers-clause-reports
returns-in_err-check_headers-clause-reports c =
    let p = err_from_is_err_and c.from_residual-in_err-check_headers.result c.from_residual-in_err-check_headers.ensures.1 in
    rw (p.1, p.2) (fails_back (rules_of_root_header c.args.bytes.now) _ _ c.in_ok-root_header.ensures.reports
    (fails_prefix (rules_from (rules_of_header c.args.bytes.now) 0 (header_count c.args.bytes.now)) (rules_of_tables c.args.bytes.now) _ c.in_err-check_headers.ensures.reports))

pub check_tables-requires-clause-shows : goal.check_tables-requires-clause-shows
check_tables-requires-clause-shows c = shows_from_all c.args.bytes.now (header_count c.args.bytes.now) c.in_ok-check_headers.ensures.reports

pub returns-in_err-check_tables-clause-reports : goal.returns-in_err-check_tables-clause-reports
returns-in_err-check_tables-clause-reports c =
    let p = err_from_is_err_and c.from_residual-in_err-check_tables.result c.from_residual-in_err-check_tables.ensures.1 in
    rw (p.1, p.2) (fails_back (rules_of_root_header c.args.bytes.now) _ _ c.in_ok-root_header.ensures.reports
    (fails_back (rules_from (rules_of_header c.args.bytes.now) 0 (header_count c.args.bytes.now)) (rules_of_tables c.args.bytes.now) _ c.in_ok-check_headers.ensures.reports c.in_err-check_tables.ensures.reports))

pub invariant_of-result : goal.invariant_of-result
invariant_of-result c =
    record {
      small = c.in_ok-root_header.ensures.small;
      start = c.in_ok-root_header.ensures.start;
      shows = rw (c.in_ok-root_header.ensures.count) (shows_from_all c.args.bytes.now (header_count c.args.bytes.now) c.in_ok-check_headers.ensures.reports);
      within = within_from_all c.args.bytes.now _ (header_count c.args.bytes.now) c.in_ok-root_header.ensures.count c.in_ok-check_headers.ensures.reports;
    }

pub returns-clause-reports : goal.returns-clause-reports
returns-clause-reports c =
    all_append (rules_of_root_header c.args.bytes.now) _ c.in_ok-root_header.ensures.reports
    (all_append (rules_from (rules_of_header c.args.bytes.now) 0 (header_count c.args.bytes.now)) (rules_of_tables c.args.bytes.now) c.in_ok-check_headers.ensures.reports c.in_ok-check_tables.ensures.reports)
