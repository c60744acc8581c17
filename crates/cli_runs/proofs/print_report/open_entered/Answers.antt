use Rattle.cli_runs.proofs.Reporting.{facts_of_model}
use Rattle.cli_runs.proofs.print_report.open_entered.Goals as goal

pub returns-clause-models : goal.returns-clause-models
returns-clause-models c = λ model is.
    let facts = facts_of_model c.args.job.now.request.now.input c.args.job.now.bytes.now model is in (c.in_ok-header.ensures.facts facts.0 model facts.1).1

pub returns-clause-entered : goal.returns-clause-entered
returns-clause-entered c = λ header model are. let facts = c.in_ok-header.ensures.facts header model are in (rw (← facts.0) c.entry_in.ensures, facts.1)
