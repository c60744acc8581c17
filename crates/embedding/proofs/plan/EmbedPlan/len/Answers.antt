use Rattle.embedding.proofs.Prelude.{sym, ap, ◌∙◌, Target, Planned, target_in}
use Rattle.embedding.proofs.Written.{result_long}
use Rattle.embedding.proofs.plan.EmbedPlan.len.Goals as goal

pub returns-clause-value : goal.returns-clause-value
returns-clause-value c =
    ap (λ (target : Target). target.len) c.self.invariant.target
    ∙ ap (λ (plan : Planned). (target_in plan).len) c.self.view_is
    ∙ sym (result_long _ _ c.self.view_is c.self.invariant.planned)
