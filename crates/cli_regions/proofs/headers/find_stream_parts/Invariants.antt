use Rattle.cli_regions.proofs.Prelude.{All, flat_map, stream_part_regions, Completes}
use Rattle.cli_regions.proofs.HeaderLemmas.{BeginsBy}
use Rattle.cli_regions.proofs.headers.find_stream_parts.Given as goal

abbrev pub invariant-loop-header : goal.invariant-loop-header
invariant-loop-header l = record {
  left : Completes l.initial.found l.found (flat_map (stream_part_regions l.part l.start l.size) l.header-iterator)
      (flat_map (stream_part_regions l.part l.start l.size) l.fn.of);
  low : All (BeginsBy 0x40000000) l.header-iterator;
}
