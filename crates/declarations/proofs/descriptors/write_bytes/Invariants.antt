use Rattle.declarations.proofs.Prelude.{take, WritesInCalls, bytes_text}
use Rattle.declarations.proofs.descriptors.write_bytes.Given as goal

abbrev pub invariant-loop-byte : goal.invariant-loop-byte
invariant-loop-byte g l = WritesInCalls g.W.Write.write_str_gives l.initial.out (bytes_text (take l.byte-index l.blob)) l.out
