use Rattle.checks.proofs.Prelude.{before_none, before_more, before_all, ◌≡◌, List, get_or, ap, arith, err_from_is_err_and, rules_of_signatures_at, rules_of_signatures, TableId, Module, table_at, IsBelow, FailsWithin, sum_below, table_walked_at, walked_signature_bytes}
use Rattle.checks.proofs.Spending.{part_taken, none_taken, taken_enough}
use Rattle.checks.proofs.Within.{parts_fail}
use Rattle.checks.proofs.signature_checks.check_signatures.Goals as goal

pub loop-table_index-init : goal.loop-table_index-init
loop-table_index-init c = record {
  hold = before_none (rules_of_signatures_at c.args.source.now) 0 0 (omega arith);
  takes = none_taken (table_walked_at c.args.source.now.source) c.args.budget;
}

pub loop-table_index-preserved : goal.loop-table_index-preserved
unfolding rules_of_signatures_at table_walked_at
loop-table_index-preserved c =
    let here = c.args.source.now in
    let table_index = c.loop-table_index.table_index in
    let listed : get_or c.all-tables.result.now table_index Module ≡ table_at table_index = ap (λ (l : List TableId). get_or l table_index Module) c.all-tables.ensures.value in
    record {
      hold = before_more (rules_of_signatures_at here) 0 table_index c.loop-table_index.invariant.hold (rw listed at c.in_ok-check_signatures_of.ensures.reports);
      takes = part_taken (table_walked_at here.source) table_index c.args.budget c.loop-table_index.left c.check_signatures_of.new.budget c.loop-table_index.invariant.takes
          (rw listed at c.in_ok-check_signatures_of.ensures.takes);
    }

pub returns-in_err-check_signatures_of-clause-reports : goal.returns-in_err-check_signatures_of-clause-reports
unfolding walked_signature_bytes rules_of_signatures rules_of_signatures_at table_walked_at
returns-in_err-check_signatures_of-clause-reports c =
    let p = err_from_is_err_and c.from_residual.result c.from_residual.ensures.1 in
    let here = c.args.source.now in
    let table_index = c.loop-table_index.table_index in
    let listed : get_or c.all-tables.result.now table_index Module ≡ table_at table_index = ap (λ (l : List TableId). get_or l table_index Module) c.all-tables.ensures.value in
    let error = c.in_err-check_signatures_of.field-0.0 in
    let reported : FailsWithin (IsBelow c.loop-table_index.left (table_walked_at here.source table_index)) (rules_of_signatures_at here table_index) error =
    rw listed at c.in_err-check_signatures_of.ensures.reports in
    rw (p.1, p.2) (parts_fail (rules_of_signatures_at here) (table_walked_at here.source) table_index 38 c.args.budget c.loop-table_index.left error
    c.loop-table_index.invariant.hold (omega (arith, c.all-tables.ensures.count)) c.loop-table_index.invariant.takes reported)

pub returns-clause-reports : goal.returns-clause-reports
unfolding rules_of_signatures
returns-clause-reports c = before_all (rules_of_signatures_at c.args.source.now) 0 c.loop-table_index.table_index 38 c.loop-table_index.invariant.hold (omega (arith, c.all-tables.ensures.count))

pub returns-clause-enough : goal.returns-clause-enough
unfolding walked_signature_bytes
returns-clause-enough c =
    let bytes = table_walked_at c.args.source.now.source in
    let all : c.loop-table_index.table_index ≡ 38 = omega (arith, c.all-tables.ensures.count) in
    taken_enough c.args.budget c.loop-table_index.left (sum_below bytes c.loop-table_index.table_index) (sum_below bytes 38)
    (rw all (omega arith)) c.loop-table_index.invariant.takes
