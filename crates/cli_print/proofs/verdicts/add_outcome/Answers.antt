use Rattle.cli_print.specs.Verdicts.{fault_parts}
use Rattle.cli_print.proofs.verdicts.add_outcome.Goals as goal

pub returns-in-Some : goal.returns-in-Some
unfolding fault_parts
returns-in-Some g c = rw (c.in-Some.is, ← c.name.ensures) c.parts.ensures
