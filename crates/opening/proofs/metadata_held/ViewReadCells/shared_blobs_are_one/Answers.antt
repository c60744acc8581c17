use Rattle.opening.proofs.Prelude.{source_of, cell_by_id, arith}
use Rattle.opening.proofs.SharedLemmas.{represented}
use Rattle.opening.proofs.metadata_held.ViewReadCells.shared_blobs_are_one.Goals as goal

pub returns : goal.returns
returns c = λ model is first second here there share.
    let root = c.args.self.now in
    let source = source_of root in
    let laws = c.models_are_read.ensures in
    let one = laws.cells root model is first.table first.row first.cell_index here.0.0 (omega (arith, here.0.1, laws.count root model is first.table)) here.1 in
    let other = laws.cells root model is second.table second.row second.cell_index there.0.0 (omega (arith, there.0.1, laws.count root model is second.table)) there.1 in
    c.cells_are_one.ensures source first.table first.row first.cell_index (cell_by_id model first) (cell_by_id model second) one
    (represented source first second share (cell_by_id model second) other)
