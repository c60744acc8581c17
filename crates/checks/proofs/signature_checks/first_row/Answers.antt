use Rattle.checks.proofs.Prelude.{◌≡◌, List, length, ap, arith, Column, columns_of, rules_of_signature, column_walked, table_walked}
use Rattle.checks.proofs.Columns.{meets_more, rows_encode, still_broken}
use Rattle.checks.proofs.Spending.{part_spent, part_below, part_taken, parts_none, none_taken}
use Rattle.checks.proofs.signature_checks.first_row.Goals as goal

pub loop-column-init : goal.loop-column-init
loop-column-init c = record {
  first = omega arith;
  last = omega (arith, c.count-limit.ensures.value);
  encode = λ column low. absurd (omega arith);
  broken = λ within. absurd (omega (arith, c.count-limit.ensures.value));
  spends = parts_none (column_walked c.args.source.now.source c.args.table) c.args.budget.now;
  takes = λ past. none_taken (column_walked c.args.source.now.source c.args.table) c.args.budget.now;
}

pub loop-column-preserved : goal.loop-column-preserved
loop-column-preserved c = record {
  first = c.in_ok-limit.ensures.found.0;
  last = omega (arith, c.in_ok-limit.ensures.found.1, c.loop-column.invariant.last);
  encode = meets_more (rules_of_signature c.args.source.now c.args.table) c.loop-column.limit c.in_ok-limit.limit c.loop-column.column
      c.in_ok-limit.ensures.found.1 c.loop-column.invariant.encode c.in_ok-limit.ensures.encodes;
  spends = part_spent (column_walked c.args.source.now.source c.args.table) c.loop-column.column c.args.budget.now c.loop-column.budget c.first_in_column.new.budget
      c.loop-column.invariant.spends c.in_ok-limit.ensures.spends;
  broken = still_broken c.args.source.now c.args.table c.loop-column.limit c.in_ok-limit.limit c.loop-column.column
      (omega (arith, ap (λ (l : List Column). length l) c.columns-column-end.ensures)) c.in_ok-limit.ensures.found.1 c.loop-column.invariant.broken c.in_ok-limit.ensures.broken;
  takes = λ past.
      part_taken (column_walked c.args.source.now.source c.args.table) c.loop-column.column c.args.budget.now c.loop-column.budget c.first_in_column.new.budget
      (c.loop-column.invariant.takes (omega (arith, past, c.in_ok-limit.ensures.found.1))) (c.in_ok-limit.ensures.takes past);
}

pub returns-in_err-limit-clause-spent : goal.returns-in_err-limit-clause-spent
unfolding table_walked
returns-in_err-limit-clause-spent c =
    let long = ap (λ (l : List Column). length l) c.columns-column-end.ensures in
    rw c.from_residual.ensures (part_below (column_walked c.args.source.now.source c.args.table) c.loop-column.column (length (columns_of c.args.table))
    c.args.budget.now c.loop-column.budget (omega arith) c.loop-column.invariant.spends c.in_err-limit.ensures.spent)

pub returns-clause-before : goal.returns-clause-before
returns-clause-before c =
    let long = ap (λ (l : List Column). length l) c.columns-column-end.ensures in
    rows_encode c.args.source.now c.args.table c.loop-column.limit c.loop-column.column (omega arith) c.loop-column.invariant.encode

pub returns-clause-takes : goal.returns-clause-takes
unfolding table_walked
returns-clause-takes c = λ past.
    let long = ap (λ (l : List Column). length l) c.columns-column-end.ensures in
    let all : c.loop-column.column ≡ length (columns_of c.args.table) = omega arith in
    rw (← all) (c.loop-column.invariant.takes past)
