use Rattle.checks.proofs.PassedLemmas.{none_kept}
use Rattle.checks.proofs.passed.Passed.none.Goals as goal

pub returns-clause-none : goal.returns-clause-none
returns-clause-none c = none_kept c.args.bytes
