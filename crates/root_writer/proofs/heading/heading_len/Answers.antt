use Rattle.root_writer.proofs.Prelude.{◌∙◌, sym, arith, sum_by-drop_more, Tables, header_length}
use Rattle.root_writer.proofs.HeadingLemmas.{at_end, heading_size_is, heading_is_long}
use Rattle.root_writer.proofs.heading.heading_len.Goals as goal

pub loop-kind-preserved : goal.loop-kind-preserved
loop-kind-preserved c = record {
  whole = omega (arith, c.loop-kind.invariant.whole, c.header_len-len.ensures.len, sum_by-drop_more header_length c.args.kinds.now c.loop-kind.kind-index Tables c.loop-kind-test.true);
  low = omega (arith, c.loop-kind.invariant.low, c.header_len-len.ensures.limit);
}

pub returns-clause-offset : goal.returns-clause-offset
returns-clause-offset c size =
    at_end _ _ c.args.kinds.now c.loop-kind.kind-index c.loop-kind.invariant.whole c.loop-kind-test.false ∙ sym (heading_size_is c.args.version.now size c.args.kinds.now)

pub returns-clause-len : goal.returns-clause-len
returns-clause-len c size =
    at_end _ _ c.args.kinds.now c.loop-kind.kind-index c.loop-kind.invariant.whole c.loop-kind-test.false ∙ sym (heading_is_long c.args.version.now size c.args.kinds.now)
