use Rattle.signatures.proofs.Prelude.{◌≡◌, length, prefixes_at}
use Rattle.signatures.proofs.Items.{with_head}
use Rattle.signatures.proofs.modifiers.prefixes.Given as goal

abbrev pub invariant-loop-tail : goal.invariant-loop-tail
invariant-loop-tail l = with_head l.all.items (prefixes_at l.tail) ≡ prefixes_at l.bytes

abbrev pub decreases-loop-tail : goal.decreases-loop-tail
decreases-loop-tail l = length l.tail
