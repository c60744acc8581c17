use Rattle.checks.proofs.Prelude.{◌≡◌, ◌-◌, HoldBefore, rules_of_row, Takes, rows_text_bytes}
use Rattle.checks.proofs.counted_rows.broken_by_rows.Given as goal

abbrev pub invariant-loop-row : goal.invariant-loop-row
invariant-loop-row l = record {
  texts : l.texts ≡ l.initial.texts;
  hold : HoldBefore (rules_of_row l.source l.fn.table) 1 l.row;
  takes : Takes l.initial.budget l.budget (rows_text_bytes l.source.source l.fn.table (l.row - 1));
}
