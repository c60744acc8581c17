use Rattle.c_values.proofs.Prelude.{arith, take_all, common_steps, all_said, IsFirstBadCell, MatchNoRoot}
use Rattle.c_values.proofs.StepLemmas.{next_cell, first_bad_cell}
use Rattle.c_values.proofs.read_rows.read_row.Goals as goal

pub loop-column-preserved : goal.loop-column-preserved
loop-column-preserved c =
    next_cell c.args.table c.args.given.now c.loop-column.column _ c.loop-column.cells.items c.in_ok-cell.cell c.push.new.self.items c.loop-column-test.true c.loop-column.invariant
    c.in_ok-cell.ensures.read c.in_ok-push.ensures.items

pub returns-clause-read : goal.returns-clause-read
returns-clause-read c = rw (take_all c.loop-column.column c.args.given.now c.loop-column-test.false) at c.loop-column.invariant

pub returns-in_err-cell-clause-refused : goal.returns-in_err-cell-clause-refused
returns-in_err-cell-clause-refused c =
    let bad : MatchNoRoot (IsFirstBadCell c.args.table c.args.row c.args.given.now) ⊥ c.in_err-cell.field-0.0 =
    first_bad_cell c.args.table c.args.row c.args.given.now c.loop-column.column _ (all_said c.loop-column.cells.items) c.in_err-cell.field-0.0 c.loop-column-test.true
    c.loop-column.invariant c.in_err-cell.ensures.refused in
    grind (arith, common_steps, bad)
