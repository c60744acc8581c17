-- Search finds this too. It is written so that a check that refuses an edit of this function ends sooner.
use Rattle.tables.proofs.Prelude.{rules, rules_of_run}
use Rattle.tables.proofs.links.check_run.Goals as goal

pub returns-then-count-eq0 : goal.returns-then-count-eq0
unfolding rules_of_run
returns-then-count-eq0 c = search rules
