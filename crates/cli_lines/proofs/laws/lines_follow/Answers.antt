use Rattle.cli_lines.proofs.PrintedLemmas.{prints_more, prints_nothing}
use Rattle.cli_lines.proofs.laws.lines_follow.Goals as goal

pub returns-clause-nothing : goal.returns-clause-nothing
returns-clause-nothing g c = prints_nothing

pub returns-clause-more : goal.returns-clause-more
returns-clause-more g c = prints_more
