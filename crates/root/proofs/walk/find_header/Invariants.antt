use Rattle.root.proofs.Prelude.{◌≡◌, None, header_offset, headers_before, named, stream_name}
use Rattle.root.proofs.walk.find_header.Given as goal

abbrev pub invariant-loop : goal.invariant-loop
invariant-loop l = record {
  place : l.place ≡ header_offset l.bytes l.counter;
  none : named (stream_name l.kind) (headers_before l.bytes l.counter) ≡ None;
}
