use Rattle.root_writer.proofs.Prelude.{◌≡◌, ◌+◌, ◌*◌, ◌≤◌, length, drop, sum_by, ended, header_length}
use Rattle.root_writer.proofs.heading.heading_len.Given as goal

-- together with the headers that are left this is the whole length
abbrev pub invariant-loop-kind : goal.invariant-loop-kind
invariant-loop-kind l = record {
  whole : l.len + sum_by header_length (drop l.kind-index l.kinds) ≡ 20 + length (ended l.version) + sum_by header_length l.kinds;
  low : l.len ≤ 276 + 264 * l.kind-index;
}
