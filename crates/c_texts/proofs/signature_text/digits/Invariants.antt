use Rattle.c_texts.proofs.HexLemmas.{AreLeft}
use Rattle.c_texts.proofs.signature_text.digits.Given as goal

abbrev pub invariant-loop-left : goal.invariant-loop-left
invariant-loop-left l = AreLeft l.number l.first l.left l.text

abbrev pub decreases-loop-left : goal.decreases-loop-left
decreases-loop-left l = l.left
