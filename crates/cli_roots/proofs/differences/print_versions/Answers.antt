use Rattle.cli_roots.proofs.Prelude.{difference_line}
use Rattle.cli_roots.proofs.differences.print_versions.Goals as goal

pub returns : goal.returns
unfolding difference_line
returns g c = λ model other is also. rw (← is, ← also) c.line.ensures
