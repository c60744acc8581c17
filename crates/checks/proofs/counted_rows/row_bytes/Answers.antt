use Rattle.checks.proofs.Prelude.{◌≡◌, ℕ, ◌+◌, ◌-◌, List, length, refl, sym, ap, ◌∙◌, arith, before_none, before_more, before_all, each_holds, Column, columns_of, rules_of_cell, rules_of_row, sum_below, cell_text_bytes, row_text_bytes}
use Rattle.checks.proofs.Sums.{sum_none, sum_more}
use Rattle.checks.proofs.counted_rows.row_bytes.Goals as goal

pub loop-column-init : goal.loop-column-init
loop-column-init c = record {
  texts = refl;
  hold = before_none _ _ _ (omega arith);
  bytes = sym (sum_none (cell_text_bytes c.args.source.now.source c.args.table (c.args.row - 1 + 1)));
  few = omega arith;
}

pub loop-column-preserved : goal.loop-column-preserved
loop-column-preserved c =
    let source = c.args.source.now.source in
    let column = c.loop-column.column in
    let bytes = cell_text_bytes source c.args.table (c.args.row - 1 + 1) in
    let again : c.args.row ≡ c.args.row - 1 + 1 = omega (arith, c.requires.first) in
    let here = c.in_ok-bytes.ensures.bytes ∙ ap (λ (row : ℕ). cell_text_bytes source c.args.table row column) again in
    record {
      texts = c.in_ok-bytes.ensures.texts ∙ c.loop-column.invariant.texts;
      hold = before_more _ _ _ c.loop-column.invariant.hold c.in_ok-bytes.ensures.holds;
      bytes = ap (λ (n : ℕ). n + c.in_ok-bytes.field-0) c.loop-column.invariant.bytes ∙ (ap (λ (n : ℕ). sum_below bytes column + n) here ∙ sym (sum_more bytes column));
      few = omega (arith, c.loop-column.invariant.few, c.in_ok-bytes.ensures.few);
    }

pub returns-in_err-bytes-clause-broken : goal.returns-in_err-bytes-clause-broken
unfolding rules_of_row
returns-in_err-bytes-clause-broken c =
    let long = ap (λ (l : List Column). length l) c.columns-column-end.ensures in
    rw c.from_residual.ensures (λ all. c.in_err-bytes.ensures.broken
    (each_holds (rules_of_cell c.args.source.now c.args.table c.args.row) 0 (length (columns_of c.args.table)) all c.loop-column.column (omega arith) (omega arith)))

pub returns-clause-holds : goal.returns-clause-holds
unfolding rules_of_row
returns-clause-holds c =
    let long = ap (λ (l : List Column). length l) c.columns-column-end.ensures in
    before_all _ _ _ _ c.loop-column.invariant.hold (omega arith)

pub returns-clause-bytes : goal.returns-clause-bytes
unfolding row_text_bytes
returns-clause-bytes c =
    let long = ap (λ (l : List Column). length l) c.columns-column-end.ensures in
    let all : c.loop-column.column ≡ length (columns_of c.args.table) = omega arith in
    rw (← all) c.loop-column.invariant.bytes
