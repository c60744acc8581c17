use Rattle.cli_lines.proofs.Prelude.{◌≡◌, IsTrue, take, escape}
use Rattle.cli_lines.proofs.json_texts.are_plain.Given as goal

abbrev pub invariant-loop-byte : goal.invariant-loop-byte
invariant-loop-byte l = IsTrue l.all → escape (take l.byte-index l.text) ≡ take l.byte-index l.text
