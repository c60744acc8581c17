use Rattle.std.proofs.Common.{◌≡◌, ℕ, length, slice_index}
use Rattle.cell_numbering.specs.BlobBytes.{bytes_at}
use Rattle.cell_numbering.proofs.written_blobs.drop_repeated.Given as goal

abbrev pub invariant-loop-use_index : goal.invariant-loop-use_index
invariant-loop-use_index l = record {
  len : length l.bytes ≡ length l.fn.bytes;
  kept : (k : ℕ) → slice_index l.firsts k ≡ k → bytes_at l.bytes k ≡ bytes_at l.fn.bytes k;
}
