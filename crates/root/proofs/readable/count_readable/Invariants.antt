use Rattle.root.proofs.Prelude.{◌≡◌, ◌<◌, ℕ, header_offset, HasHeader}
use Rattle.root.proofs.readable.count_readable.Given as goal

abbrev pub invariant-loop-number : goal.invariant-loop-number
invariant-loop-number l = record {
  place : l.place ≡ header_offset l.bytes l.number;
  each : (i : ℕ) → i < l.number → HasHeader l.bytes (header_offset l.bytes i);
}
