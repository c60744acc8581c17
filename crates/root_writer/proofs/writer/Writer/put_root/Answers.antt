use Rattle.std.proofs.Common.{◌∙◌}
use Rattle.root_writer.proofs.RowLemmas.{here_fits, put_next, put_all}
use Rattle.root_writer.proofs.RootLemmas.{heading_fits, streams_left, next_stream, no_stream}
use Rattle.root_writer.proofs.writer.Writer.put_root.Goals as goal

pub put_heading-requires : goal.put_heading-requires
put_heading-requires c =
    let same = c.as_slice-kinds.ensures.kinds ∙ c.new-held.ensures in
    record {
      short = c.requires.parts.version;
      few = c.as_slice-kinds.ensures.few;
      low = rw same c.requires.parts.low;
      room = heading_fits c.args.parts.now c.as_slice-kinds.result.now _ same c.requires.room;
    }

pub loop-kind-init : goal.loop-kind-init
loop-kind-init c =
    let same = c.as_slice-kinds.ensures.kinds ∙ c.new-held.ensures in
    streams_left c.args.parts.now c.as_slice-kinds.result.now _ _ same c.requires.room c.put_heading.ensures

pub put_stream-requires : goal.put_stream-requires
put_stream-requires c = record {
  many = c.requires.parts.many;
  room = here_fits _ _ _ _ _ _ (next_stream c.args.parts.now c.as_slice-kinds.result.now c.loop-kind.kind-index c.loop-kind-test.true) c.loop-kind.invariant;
}

pub loop-kind-preserved : goal.loop-kind-preserved
loop-kind-preserved c =
    put_next _ _ _ _ _ _ _ (next_stream c.args.parts.now c.as_slice-kinds.result.now c.loop-kind.kind-index c.loop-kind-test.true)
    c.put_stream.ensures c.loop-kind.invariant

pub returns : goal.returns
returns c =
    put_all _ _ _ _ (no_stream c.args.parts.now c.as_slice-kinds.result.now c.loop-kind.kind-index c.loop-kind-test.false) c.loop-kind.invariant
