use Rattle.cell_numbering.proofs.Prelude.{◌≡◌, take, bytes_of, all_bytes}
use Rattle.cell_numbering.proofs.written_blobs.slices_of.Given as goal

abbrev pub invariant-loop-first : goal.invariant-loop-first
invariant-loop-first l = bytes_of l.slices.items ≡ all_bytes l.bytes (take l.first-index l.firsts)
