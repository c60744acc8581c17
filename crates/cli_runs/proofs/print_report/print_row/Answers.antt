use Rattle.cli_runs.specs.Reports.{entered}
use Rattle.cli_runs.proofs.Reporting.{some_declared}
use Rattle.cli_runs.proofs.print_report.print_row.Goals as goal

pub returns-in-Printed : goal.returns-in-Printed
returns-in-Printed g c = (
  c.in-Ok.ensures.whole,
  (λ header model are.
      let opened = c.in-Ok.ensures.entered header model are in
      let out = c.in-Printed.ensures.printed model opened.1 in
      (c.in-Ok.entry, opened.0, (out.0, out.1, out.2, some_declared (entered c.args.options c.in-Ok.entry) c.args.out.now c.print_outline_of.new.out model _ out.3))),
)
