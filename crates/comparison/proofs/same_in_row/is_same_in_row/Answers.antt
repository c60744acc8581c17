use Rattle.comparison.proofs.Prelude.{◌≡◌, subst, ColumnKind, Metadata, cell_in, IsModel, IsInHeap, is_same_cell}
use Rattle.comparison.proofs.same_in_row.is_same_in_row.Goals as goal
use Rattle.comparison.proofs.same_in_row.is_same_in_row.Goals.{In_ok-same}

pub note_in_row-requires-clause-in_heap : goal.note_in_row-requires-clause-in_heap
note_in_row-requires-clause-in_heap c = subst (λ (kind : ColumnKind). IsInHeap kind) c.kind_of-kind.ensures (c.is_in_heap.ensures c.if-is_in_heap.true)

-- the test of the two values is that of the cells
tested : (c : In_ok-same) → (first second : Metadata) → IsModel c.args.left.now first → IsModel c.args.right.now second
    → c.in_ok-same.same ≡ is_same_cell (cell_in first c.args.cell.table c.args.cell.row c.args.cell.index) (cell_in second c.args.cell.table c.args.cell.row c.args.cell.index)
tested c = λ first second one two.
    (rw c.kind_of-kind.ensures at c.in_ok-same.ensures) _ _ (c.cell-left_value.ensures.cell first (rw c.requires.cells.left_root one))
    (c.cell-right_value.ensures.cell second (rw c.requires.cells.right_root two))

pub note_in_row-requires-clause-same : goal.note_in_row-requires-clause-same
note_in_row-requires-clause-same c = tested (goal.at.note_in_row-requires-clause-same c).In_ok-same

pub returns-in_ok-count_blob-clause-same : goal.returns-in_ok-count_blob-clause-same
returns-in_ok-count_blob-clause-same c = tested (goal.at.returns-in_ok-count_blob-clause-same c).In_ok-same

pub returns-else-is_in_heap-clause-same : goal.returns-else-is_in_heap-clause-same
returns-else-is_in_heap-clause-same c = tested (goal.at.returns-else-is_in_heap-clause-same c).In_ok-same
