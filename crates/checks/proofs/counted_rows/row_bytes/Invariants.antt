use Rattle.checks.proofs.Prelude.{◌≡◌, ◌-◌, ◌+◌, ◌*◌, ◌^◌, ◌≤◌, HoldBefore, rules_of_cell, sum_below, cell_text_bytes}
use Rattle.checks.proofs.counted_rows.row_bytes.Given as goal

abbrev pub invariant-loop-column : goal.invariant-loop-column
invariant-loop-column l = record {
  texts : l.texts ≡ l.initial.texts;
  hold : HoldBefore (rules_of_cell l.source l.fn.table l.fn.row) 0 l.column;
  bytes : l.bytes ≡ sum_below (cell_text_bytes l.source.source l.fn.table (l.fn.row - 1 + 1)) l.column;
  few : l.bytes ≤ l.column * 2 ^ 60;
}
