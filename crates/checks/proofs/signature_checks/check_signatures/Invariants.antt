use Rattle.checks.proofs.Prelude.{HoldBefore, rules_of_signatures_at, Takes, sum_below, table_walked_at}
use Rattle.checks.proofs.signature_checks.check_signatures.Given as goal

abbrev pub invariant-loop-table_index : goal.invariant-loop-table_index
invariant-loop-table_index l = record {
  hold : HoldBefore (rules_of_signatures_at l.source) 0 l.table_index;
  takes : Takes l.initial.left l.left (sum_below (table_walked_at l.source.source) l.table_index);
}
