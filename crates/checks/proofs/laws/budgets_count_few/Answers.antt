use Rattle.std.proofs.Common.{arith}
use Rattle.checks.proofs.Walks.{walked_no_more}
use Rattle.checks.proofs.laws.budgets_count_few.Goals as goal

pub returns : goal.returns
returns c = λ source. omega (arith, walked_no_more source)
