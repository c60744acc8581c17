use Rattle.cell_numbering.proofs.Prelude.{◌≡◌, ◌<◌, ℕ, None, ColumnBytes, AreIndexesIn}
use Rattle.std.specs.Prelude.{IfSome, slice_index_or, length}
use Rattle.cell_numbering.proofs.index_columns.index_columns.Given as goal

-- the columns of the first cells
abbrev pub invariant-loop-cell_index : goal.invariant-loop-cell_index
invariant-loop-cell_index g l = record {
  len : length l.columns.items ≡ l.cell_index;
  counts : (k : ℕ) → k < l.cell_index → IfSome (slice_index_or l.columns.items k None) (λ (numbers : ColumnBytes). numbers.count ≡ g.S.ReadMetadata.row_count l.source l.table);
  indexes : (k : ℕ) → k < l.cell_index
      → IfSome (slice_index_or l.columns.items k None) (AreIndexesIn (g.S.ReadCells.heap_index l.source) l.table k (g.S.ReadMetadata.row_count l.source l.table));
}
