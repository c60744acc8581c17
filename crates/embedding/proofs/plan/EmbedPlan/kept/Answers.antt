use Rattle.embedding.proofs.Written.{result_long}
use Rattle.embedding.proofs.plan.EmbedPlan.kept.Goals as goal

pub returns-clause-whole : goal.returns-clause-whole
returns-clause-whole c = result_long _ _ c.self.view_is c.self.invariant.planned
