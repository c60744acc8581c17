use Rattle.cell_numbering.proofs.Prelude.{List, ◌++◌, take, Cell, Metadata, row_of, AreUsesIn}
use Rattle.cell_numbering.proofs.heap_uses.add_row.Given as goal

-- with the values of the first cells
abbrev pub invariant-loop-cell_index : goal.invariant-loop-cell_index
invariant-loop-cell_index g l =
    (model : Metadata) → g.S.ReadMetadata.shows l.source model → (cells : List Cell) → AreUsesIn (g.S.ReadCells.heap_index l.source) model l.fn.uses cells
    → AreUsesIn (g.S.ReadCells.heap_index l.source) model l.uses (cells ++ take l.cell_index (row_of model l.table l.row))
