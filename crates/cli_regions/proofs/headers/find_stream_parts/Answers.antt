use Rattle.cli_regions.proofs.Prelude.{ap, flat_map, All-rest, All-same, view, stream_part_regions, said_as, more_left, none_left}
use Rattle.cli_regions.proofs.HeaderLemmas.{BeginsBy}
use Rattle.cli_regions.proofs.headers.find_stream_parts.Goals as goal

pub loop-header-init : goal.loop-header-init
loop-header-init c = record {
  left = λ later adds. said_as adds (ap (flat_map (stream_part_regions c.args.part c.args.start c.args.size)) c.into_iter-header-iterator.ensures.into_iter_gives);
  low = All-same (BeginsBy 0x40000000) c.into_iter-header-iterator.result c.args.of c.into_iter-header-iterator.ensures.into_iter_gives c.requires.small;
}

pub loop-header-preserved : goal.loop-header-preserved
loop-header-preserved c = record {
  left = more_left _ _ c.loop-header.invariant.left (ap (flat_map (stream_part_regions c.args.part c.args.start c.args.size)) c.in-Some.ensures.steps) c.find_stream_part.ensures;
  low = All-rest (BeginsBy 0x40000000) (view c.in-Some.header) c.next.new.self c.loop-header.header-iterator c.in-Some.ensures.steps c.loop-header.invariant.low;
}

pub returns : goal.returns
returns c = none_left _ c.loop-header.invariant.left (ap (flat_map (stream_part_regions c.args.part c.args.start c.args.size)) c.in-None.ensures.steps.0)
