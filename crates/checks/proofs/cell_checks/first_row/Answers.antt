use Rattle.checks.proofs.Prelude.{List, length, ap, arith, Column, rules_of_cell}
use Rattle.checks.proofs.Columns.{meets_more, rows_stand}
use Rattle.checks.proofs.cell_checks.first_row.Goals as goal

pub loop-column-preserved : goal.loop-column-preserved
loop-column-preserved c = record {
  first = c.first_in_column-limit.ensures.first;
  last = omega (arith, c.first_in_column-limit.ensures.last, c.loop-column.invariant.last);
  stand = meets_more (rules_of_cell c.args.source.now c.args.table) c.loop-column.limit c.first_in_column-limit.result c.loop-column.column
      c.first_in_column-limit.ensures.last c.loop-column.invariant.stand c.first_in_column-limit.ensures.stands;
}

pub returns-clause-before : goal.returns-clause-before
returns-clause-before c =
    let long = ap (λ (l : List Column). length l) c.columns-column-end.ensures in
    rows_stand c.args.source.now c.args.table c.loop-column.limit c.loop-column.column (omega arith) c.loop-column.invariant.stand
