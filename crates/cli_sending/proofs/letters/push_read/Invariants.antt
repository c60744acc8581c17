use Rattle.cli_sending.proofs.Prelude.{◌≡◌, ◌++◌, drop, readable_after}
use Rattle.cli_sending.proofs.letters.push_read.Given as goal

abbrev pub invariant-loop-index : goal.invariant-loop-index
invariant-loop-index l = l.out.items ++ readable_after l.what l.skipped (drop l.index l.text) ≡ l.initial.out.items ++ readable_after l.what 0 l.text
