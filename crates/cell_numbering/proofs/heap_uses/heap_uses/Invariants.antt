use Rattle.cell_numbering.proofs.Prelude.{List, [], ◌++◌, take, flat_map, Cell, Metadata, AreUsesIn}
use Rattle.cell_numbering.proofs.heap_uses.heap_uses.Given as goal

-- the values of the first tables
abbrev pub invariant-loop-table : goal.invariant-loop-table
invariant-loop-table g l =
    (model : Metadata) → g.S.ReadMetadata.shows l.source model
    → AreUsesIn (g.S.ReadCells.heap_index l.source) model l.uses ([] ++ flat_map (flat_map (λ (row : List Cell). row)) (take l.table-index model.tables))
