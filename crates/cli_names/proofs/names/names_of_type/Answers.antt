use Rattle.std.proofs.Common.{refl}
use Rattle.cli_names.proofs.TypeNames.{full_name}
use Rattle.cli_names.proofs.names.names_of_type.Goals as goal

pub returns : goal.returns
returns c = full_name c.args.full_name.now c.rsplit_once.result _ c.unwrap_or.result c.rsplit_once.ensures.cases refl refl c.unwrap_or.ensures
