use Rattle.std.proofs.Common.{arith}
use Rattle.full_names.proofs.QuotedLemmas.{within_at}
use Rattle.full_names.proofs.quoted.is_in_identifier.Goals as goal

pub returns : goal.returns
returns c = within_at c.args.byte (omega (arith, c.ranges.byte))
