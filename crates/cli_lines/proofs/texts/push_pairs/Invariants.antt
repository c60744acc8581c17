use Rattle.cli_lines.proofs.Prelude.{◌≡◌, ◌++◌, take, escaped_bytes}
use Rattle.cli_lines.proofs.texts.push_pairs.Given as goal

abbrev pub invariant-loop-byte : goal.invariant-loop-byte
invariant-loop-byte l = l.line.items ≡ l.initial.line.items ++ escaped_bytes (take l.byte-index l.bytes)
