use Rattle.std.proofs.Common.{◌∙◌, sym}
use Rattle.full_names.proofs.QuotedLemmas.{within_after}
use Rattle.full_names.proofs.quoted.position_within.Goals as goal

pub returns-then-is_in_identifier : goal.returns-then-is_in_identifier
returns-then-is_in_identifier c = within_after c.args.byte (sym c.is_in_identifier.ensures ∙ c.if-is_in_identifier.true)
