use Rattle.cli_files.specs.Checks.{ok_line}
use Rattle.cli_sending.proofs.SentLemmas.{prefix_of_nothing}
use Rattle.cli_files.proofs.check.print_ok.Goals as goal

pub returns-in-Err-clause-sent : goal.returns-in-Err-clause-sent
returns-in-Err-clause-sent g c = prefix_of_nothing (g.W.Write.contents c.args.out.now) ok_line
