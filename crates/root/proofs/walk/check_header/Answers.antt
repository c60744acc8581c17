use Rattle.std.proofs.Common.{rules}
use Rattle.root.proofs.walk.check_header.Goals as goal

pub returns-clause-reports : goal.returns-clause-reports
returns-clause-reports c = rw (← c.requires.place) (search rules)
