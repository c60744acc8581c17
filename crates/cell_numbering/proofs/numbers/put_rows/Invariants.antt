use Rattle.cell_numbering.proofs.Prelude.{◌≡◌, drop, columns_of, Metadata, rows_of, with_rows}
use Rattle.cell_numbering.proofs.numbers.put_rows.Given as goal

-- together with the rows that are left these are all rows
abbrev pub invariant-loop-row : goal.invariant-loop-row
invariant-loop-row g l = record {
  whole : (model : Metadata) → g.S.ReadMetadata.shows l.source model
      → with_rows l.indexes (columns_of l.table) (drop l.row (rows_of model l.table)) l.so_far
      ≡ with_rows l.indexes (columns_of l.table) (rows_of model l.table) l.fn.so_far;
  follow : g.S.ReadCells.follow l.source l.cursors;
}
