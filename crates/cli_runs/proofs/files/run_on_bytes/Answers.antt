use Rattle.std.proofs.Common.{Ok, arith, refl}
use Rattle.cli_runs.proofs.files.run_on_bytes.Goals as goal

pub returns-in-Ok-Printed : goal.returns-in-Ok-Printed
returns-in-Ok-Printed g c = (omega arith, (λ is. refl), (Ok c.args.bytes.now, (c.in-Ok-Printed.field-0, c.in-Ok-Printed.ensures, rw c.in-Ok-Printed.field-0-is refl)))

pub returns-in-Ok-Stopped : goal.returns-in-Ok-Stopped
returns-in-Ok-Stopped g c =
    let stopped = c.report_stop.ensures in
    (stopped.limit, stopped.quiet, (Ok c.args.bytes.now, (c.in-Ok-Stopped.field-0, c.in-Ok-Stopped.ensures, rw c.in-Ok-Stopped.field-0-is stopped.status)))

pub returns-in-Ok-Refused : goal.returns-in-Ok-Refused
returns-in-Ok-Refused g c =
    let stopped = c.report_stop-in-Ok-Refused.ensures in
    (stopped.limit, stopped.quiet, (Ok c.args.bytes.now, (c.in-Ok-Refused.field-0, c.in-Ok-Refused.ensures, rw c.in-Ok-Refused.field-0-is stopped.status)))

pub returns-in-Err : goal.returns-in-Err
returns-in-Err g c = (c.args.bytes.now, c.in-Err.failure, c.in-Err.ensures)
