use Rattle.std.proofs.Common.{arith}
use Rattle.heaps.proofs.WindowLemmas.{shorter, step_more}
use Rattle.heaps.proofs.window_names.have_same_names.Goals as goal

pub loop-step-preserved : goal.loop-step-preserved
loop-step-preserved c = record {
  same = λ heap named. step_more heap c.loop-step.step c.args.width c.args.first c.args.second (c.loop-step.invariant.same heap named)
      (c.have_one_name.ensures c.if-not-have_one_name.false heap c.args.width named);
}

pub returns : goal.returns
returns c = λ true heap named. shorter heap c.args.len c.loop-step.step c.args.first c.args.second (omega arith) (c.loop-step.invariant.same heap named)
