use Rattle.cell_numbering.proofs.Prelude.{◌≡◌, ◌<◌, ℕ, None, Metadata}
use Rattle.std.specs.Prelude.{IfSome, slice_index_or, length}
use Rattle.cell_numbering.specs.PlainColumns.{IsPlainIn, Plain}
use Rattle.cell_numbering.proofs.plain_columns.plain_columns.Given as goal

-- the columns of the first cells
abbrev pub invariant-loop-cell_index : goal.invariant-loop-cell_index
invariant-loop-cell_index g l = record {
  len : length l.columns.items ≡ l.cell_index;
  counts : (k : ℕ) → k < l.cell_index → IfSome (slice_index_or l.columns.items k None) (λ (plain : Plain). plain.column.count ≡ g.S.ReadMetadata.row_count l.source l.table);
  plain : (model : Metadata) → g.S.ReadMetadata.shows l.source model → (k : ℕ) → k < l.cell_index → IfSome (slice_index_or l.columns.items k None) (IsPlainIn model l.table k);
}
