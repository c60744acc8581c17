use Rattle.cell_numbering.proofs.Prelude.{List, ◌++◌, take, flat_map, Cell, Metadata, rows_of, AreUsesIn}
use Rattle.cell_numbering.proofs.heap_uses.add_rows.Given as goal

-- with the values of the first rows
abbrev pub invariant-loop-row : goal.invariant-loop-row
invariant-loop-row g l =
    (model : Metadata) → g.S.ReadMetadata.shows l.source model → (cells : List Cell) → AreUsesIn (g.S.ReadCells.heap_index l.source) model l.fn.uses cells
    → AreUsesIn (g.S.ReadCells.heap_index l.source) model l.uses (cells ++ flat_map (λ (row : List Cell). row) (take l.row (rows_of model l.table)))
