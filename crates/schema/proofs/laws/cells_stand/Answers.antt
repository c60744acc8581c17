use Rattle.schema.proofs.OneLemmas.{cell_laid}
use Rattle.schema.proofs.laws.cells_stand.Goals as goal

pub returns : goal.returns
returns c = cell_laid
