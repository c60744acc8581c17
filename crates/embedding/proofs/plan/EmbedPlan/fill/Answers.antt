use Rattle.embedding.proofs.Prelude.{◌∙◌, arith}
use Rattle.embedding.proofs.Written.{result_long}
use Rattle.embedding.proofs.plan.EmbedPlan.fill.Goals as goal

pub copy_file-requires : goal.copy_file-requires
copy_file-requires c = c.requires ∙ result_long _ _ c.self.view_is c.self.invariant.planned

pub put_changes-requires-clause-long : goal.put_changes-requires-clause-long
put_changes-requires-clause-long c = omega (arith, c.requires, result_long _ _ c.self.view_is c.self.invariant.planned)
