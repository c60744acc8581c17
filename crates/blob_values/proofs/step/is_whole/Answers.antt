use Rattle.std.proofs.Common.{◌∙◌, sym, rules}
use Rattle.blob_values.proofs.StepLemmas.{done_ends}
use Rattle.blob_values.proofs.step.is_whole.Goals as goal

pub returns : goal.returns
returns c =
    done_ends c.loop-left.left c.loop-left.bytes.now c.is_empty.result (sym c.is_done.ensures ∙ c.loop-left-test.false) (search rules) (search rules)
    ∙ c.loop-left.invariant
