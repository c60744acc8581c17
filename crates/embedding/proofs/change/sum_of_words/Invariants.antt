use Rattle.embedding.proofs.Prelude.{◌≡◌, ◌+◌, ◌*◌, ◌-◌, ◌≤◌, length, drop, sum_of_words}
use Rattle.embedding.proofs.change.sum_of_words.Given as goal

-- the words before the offset are added
abbrev pub invariant-loop-offset : goal.invariant-loop-offset
invariant-loop-offset l =
    (l.offset ≤ length l.bytes) × (l.sum ≤ 0xFFFF * l.offset) × (l.sum + sum_of_words (drop l.offset l.bytes) ≡ sum_of_words l.bytes)

abbrev pub decreases-loop-offset : goal.decreases-loop-offset
decreases-loop-offset l = length l.bytes - l.offset
