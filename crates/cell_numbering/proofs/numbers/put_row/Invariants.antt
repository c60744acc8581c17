use Rattle.cell_numbering.proofs.Prelude.{◌≡◌, drop, columns_of, Metadata, row_of, with_row}
use Rattle.cell_numbering.specs.CellIndexes.{IsCellIndexOf}
use Rattle.cell_numbering.proofs.numbers.put_row.Given as goal

-- together with the columns that are left this is the whole row
abbrev pub invariant-loop-index : goal.invariant-loop-index
invariant-loop-index g l = record {
  whole : (model : Metadata) → g.S.ReadMetadata.shows l.source model
      → with_row l.indexes (drop l.index (columns_of l.table)) (drop l.cell_index (row_of model l.table l.row)) l.so_far
      ≡ with_row l.indexes (columns_of l.table) (row_of model l.table l.row) l.fn.so_far;
  at : IsCellIndexOf l.table l.index l.cell_index;
  follow : g.S.ReadCells.follow l.source l.cursors;
}
