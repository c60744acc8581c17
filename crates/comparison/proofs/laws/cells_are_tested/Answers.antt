use Rattle.comparison.proofs.CellTests.{cell_decides}
use Rattle.comparison.proofs.laws.cells_are_tested.Goals as goal

pub returns : goal.returns
returns c = cell_decides c.equality_is_tested.ensures
