use Rattle.checks.proofs.Prelude.{arith, sym, ◌∙◌, before_more, before_all, rules_of_row, rules_of_table}
use Rattle.checks.proofs.Broken.{passes, breaks}
use Rattle.checks.proofs.cell_checks.broken_from.Goals as goal

pub loop-row-preserved : goal.loop-row-preserved
loop-row-preserved c =
    before_more _ _ _ c.loop-row.invariant
    (passes (rules_of_row c.args.source.now c.args.table c.loop-row.row) c.check_row.result c.check_row.ensures (sym c.is_err.ensures.value ∙ c.if-is_err.false))

pub returns-then-is_err : goal.returns-then-is_err
returns-then-is_err c = record {
  first = omega arith;
  last = omega arith;
  before = c.loop-row.invariant;
  broken = breaks (rules_of_row c.args.source.now c.args.table c.loop-row.row) c.check_row.result c.check_row.ensures (sym c.is_err.ensures.value ∙ c.if-is_err.true);
}

pub returns : goal.returns
unfolding rules_of_table
returns c = before_all _ _ _ _ c.loop-row.invariant (omega arith)
