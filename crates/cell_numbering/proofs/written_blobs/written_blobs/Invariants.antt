use Rattle.cell_numbering.proofs.Prelude.{◌≡◌, ℕ, List, take, AllZip, AreWritten, all_bytes, IsUseOf}
use Rattle.cell_numbering.proofs.written_blobs.written_blobs.Given as goal

abbrev pub invariant-loop-use_index : goal.invariant-loop-use_index
invariant-loop-use_index l = record {
  written : AreWritten l.written.bytes.items l.written.firsts.items;
  blobs : (blobs : List (List ℕ)) → AllZip IsUseOf l.uses blobs → all_bytes l.written.bytes.items l.written.firsts.items ≡ take l.use_index blobs;
}
