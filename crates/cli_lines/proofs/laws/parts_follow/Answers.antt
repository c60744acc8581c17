use Rattle.cli_lines.proofs.PrintedLemmas.{line_printed}
use Rattle.cli_lines.proofs.laws.parts_follow.Goals as goal

pub returns-clause-line : goal.returns-clause-line
returns-clause-line g c = line_printed
