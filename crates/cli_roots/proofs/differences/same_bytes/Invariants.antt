use Rattle.cli_roots.proofs.Prelude.{◌≡◌, ◌+◌, drop, zero_padded, same_bytes}
use Rattle.cli_roots.proofs.differences.same_bytes.Given as goal

-- all bytes before the offset are the same
abbrev pub invariant-loop-offset : goal.invariant-loop-offset
invariant-loop-offset l =
    l.offset + same_bytes (drop l.offset (zero_padded l.left)) (drop l.offset (zero_padded l.right)) ≡ same_bytes (zero_padded l.left) (zero_padded l.right)
