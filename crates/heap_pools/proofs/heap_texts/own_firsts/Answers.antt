use Rattle.heap_pools.proofs.Prelude.{arith, common_steps}
use Rattle.heap_pools.proofs.heap_texts.own_firsts.Goals as goal

pub loop-use_index-preserved : goal.loop-use_index-preserved
loop-use_index-preserved c = grind (arith, common_steps)

pub returns-in_err-push-clause-len : goal.returns-in_err-push-clause-len
returns-in_err-push-clause-len c = grind (arith, common_steps)

pub returns-in_err-push-clause-own : goal.returns-in_err-push-clause-own
returns-in_err-push-clause-own c = grind (arith, common_steps)
