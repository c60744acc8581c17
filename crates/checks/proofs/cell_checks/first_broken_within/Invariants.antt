use Rattle.checks.proofs.Prelude.{◌≡◌, HoldBefore, rules_of_table_at, Takes, sum_below, table_text_bytes}
use Rattle.checks.proofs.cell_checks.first_broken_within.Given as goal

abbrev pub invariant-loop-table_index : goal.invariant-loop-table_index
invariant-loop-table_index l = record {
  texts : l.texts ≡ l.source.source.texts;
  hold : HoldBefore (rules_of_table_at l.source) 0 l.table_index;
  takes : Takes l.initial.budget l.budget (sum_below (table_text_bytes l.source.source) l.table_index);
}
