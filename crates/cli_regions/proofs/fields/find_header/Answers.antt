use Rattle.cli_regions.proofs.Prelude.{and_then}
use Rattle.cli_regions.proofs.fields.find_header.Goals as goal

pub returns : goal.returns
returns c = and_then c.look.ensures c.find_fields.ensures
