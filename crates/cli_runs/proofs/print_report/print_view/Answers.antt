use Rattle.cli_runs.specs.Reports.{everything}
use Rattle.cli_runs.proofs.Reporting.{declared}
use Rattle.cli_runs.proofs.print_report.print_view.Goals as goal

pub returns-in-Show : goal.returns-in-Show
returns-in-Show g c model is = rw c.in-Show.is (rw c.tables_of.ensures at (c.print_show.ensures model is))

pub returns-in-Types : goal.returns-in-Types
returns-in-Types g c model is = rw c.in-Types.is (c.print_types.ensures model is)

pub returns-in-Refs : goal.returns-in-Refs
returns-in-Refs g c model is = rw c.in-Refs.is (declared everything c.args.out.now c.print_refs.new.out model _ (c.print_refs.ensures model is))
