use Rattle.root.proofs.Prelude.{◌≡◌, ◌≤◌, length, HoldBefore, header_offset, rules_of_header}
use Rattle.root.proofs.walk.check_headers.Given as goal

abbrev pub invariant-loop-number : goal.invariant-loop-number
invariant-loop-number l = record {
  place : l.place ≡ header_offset l.bytes l.number;
  room : l.place ≤ length l.bytes;
  holds : HoldBefore (rules_of_header l.bytes) 0 l.number;
}
