-- Bytes that are written in sequence.
use Rattle.root_writer.proofs.Prelude.{List, ℕ, ◌++◌, ap, ◌∙◌, append_assoc, length-append, arith, Written, Puts}

pub puts_then : {old middle new : Written} {first second : List ℕ} → Puts old middle first → Puts middle new second → Puts old new (first ++ second)
puts_then {old} {middle} {new} {first} {second} a b = record {
  bytes = b.bytes ∙ ap (λ list. list ++ second) a.bytes ∙ append_assoc old.bytes first second;
  room = omega (arith, a.room, b.room, length-append first second);
}
