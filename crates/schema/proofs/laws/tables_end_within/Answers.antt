use Rattle.schema.proofs.StreamLemmas.{end_laid}
use Rattle.schema.proofs.laws.tables_end_within.Goals as goal

pub returns : goal.returns
returns c = end_laid
