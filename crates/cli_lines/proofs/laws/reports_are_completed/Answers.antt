use Rattle.cli_lines.proofs.PrintedLemmas.{all_completed, completed}
use Rattle.cli_lines.proofs.laws.reports_are_completed.Goals as goal

pub returns-clause-more : goal.returns-clause-more
returns-clause-more g c = completed

pub returns-clause-all : goal.returns-clause-all
returns-clause-all g c = all_completed
