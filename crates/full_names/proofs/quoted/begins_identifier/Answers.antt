use Rattle.std.proofs.Common.{arith}
use Rattle.full_names.proofs.QuotedLemmas.{begins_at}
use Rattle.full_names.proofs.quoted.begins_identifier.Goals as goal

pub returns : goal.returns
returns c = begins_at c.args.byte (omega (arith, c.ranges.byte))
