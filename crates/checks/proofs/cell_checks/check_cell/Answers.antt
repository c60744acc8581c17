use Rattle.std.proofs.Common.{Ok, Err}
use Rattle.checks.proofs.Numbers.{cell_reports}
use Rattle.checks.proofs.cell_checks.check_cell.Goals as goal

pub returns-in-Ok : goal.returns-in-Ok
returns-in-Ok c =
    cell_reports c.args.source.now c.args.table c.args.row c.args.column c.number-number.result c.column_at-held.result (Ok c.in-Ok.field-0) c.column_at-held.ensures c.number-number.ensures.value c.in-Ok.ensures

pub returns-in-Err : goal.returns-in-Err
returns-in-Err c =
    rw c.fault.ensures (cell_reports c.args.source.now c.args.table c.args.row c.args.column c.number-number.result c.column_at-held.result {X = Unit {0}} (Err c.in-Err.code) c.column_at-held.ensures c.number-number.ensures.value c.in-Err.ensures)
