use Rattle.cli_header.proofs.CliLemmas.{reports_found, reports_only, reports_all}
use Rattle.cli_header.proofs.header.read_cli.Goals as goal

pub returns-clause-sound : goal.returns-clause-sound
returns-clause-sound c =
    reports_found c.args.pe.now c.check_cli.result c.check_cli.ensures.reports c.check_cli.ensures.header (c.headers_are_read.ensures.sound c.args.pe.now)

pub returns-clause-complete : goal.returns-clause-complete
returns-clause-complete c = λ header is.
    reports_only c.args.pe.now header c.check_cli.result c.check_cli.ensures.reports c.check_cli.ensures.header
    (c.headers_are_read.ensures.rules_hold c.args.pe.now header is) (c.headers_are_read.ensures.said c.args.pe.now header is)

pub returns-clause-all : goal.returns-clause-all
returns-clause-all c = reports_all c.args.pe.now c.check_cli.result c.check_cli.ensures.reports c.check_cli.ensures.header
