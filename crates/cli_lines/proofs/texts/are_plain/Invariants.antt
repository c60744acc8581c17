use Rattle.cli_lines.proofs.Prelude.{◌≡◌, IsTrue, take, escaped_text}
use Rattle.cli_lines.proofs.texts.are_plain.Given as goal

abbrev pub invariant-loop-byte : goal.invariant-loop-byte
invariant-loop-byte l = IsTrue l.all → escaped_text (take l.byte-index l.text) ≡ take l.byte-index l.text
