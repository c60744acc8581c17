use Rattle.cli.proofs.Prelude.{take, AreNamed}
use Rattle.cli.proofs.columns.columns_of.Given as goal

abbrev pub invariant-loop-word : goal.invariant-loop-word
invariant-loop-word l = AreNamed (take l.word-index l.fn.words) l.ignored
