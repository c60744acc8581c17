use Rattle.full_names.proofs.Prelude.{take, WritesInCalls, quoted_bytes}
use Rattle.full_names.proofs.quoted.write_bytes.Given as goal

abbrev pub invariant-loop-byte : goal.invariant-loop-byte
invariant-loop-byte g l = WritesInCalls g.W.Write.write_str_gives l.initial.out (quoted_bytes (take l.byte-index l.bytes)) l.out
