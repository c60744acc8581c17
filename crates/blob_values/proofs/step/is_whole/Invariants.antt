use Rattle.blob_values.proofs.Prelude.{◌≡◌, length, ends, left_at}
use Rattle.blob_values.proofs.step.is_whole.Given as goal

-- what is left ends where the bytes do if and only if all of it does
abbrev pub invariant-loop-left : goal.invariant-loop-left
invariant-loop-left l = ends (left_at l.left l.bytes) ≡ ends (left_at l.initial.left l.initial.bytes)

abbrev pub decreases-loop-left : goal.decreases-loop-left
decreases-loop-left l = length l.bytes
