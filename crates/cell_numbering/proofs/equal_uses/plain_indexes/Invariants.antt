use Rattle.std.proofs.Common.{◌≡◌, ◌<◌, ℕ, slice_index, slice_index_or, vec_len}
use Rattle.cell_numbering.specs.declared.blob_use.BlobUse.{BlobUse}
use Rattle.cell_numbering.specs.EqualUses.{IsPlainAt}
use Rattle.cell_numbering.proofs.equal_uses.plain_indexes.Given as goal

abbrev pub invariant-loop-found : goal.invariant-loop-found
invariant-loop-found l = record {
  len : vec_len l.indexes ≡ l.found-index;
  plain : (k : ℕ) (d : BlobUse) → k < l.found-index → 0 < slice_index l.indexes.items k → IsPlainAt (slice_index_or l.uses k d) (slice_index l.indexes.items k);
}
