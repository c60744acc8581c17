use Rattle.embedding.proofs.Prelude.{◌≡◌, length, ap, refl, subst, ◌∙◌, part, Target, Planned, shown_plan, result_of}
use Rattle.embedding.proofs.Written.{root_in_result}
use Rattle.embedding.proofs.plan.EmbedPlan.root_range.Goals as goal

pub returns-clause-bytes : goal.returns-clause-bytes
returns-clause-bytes c =
    let plan = shown_plan c.self.inside in
    subst (λ (p : Planned). part (result_of p) c.self.inside.target.start (length p.root) ≡ p.root) c.self.view_is
    (ap (λ (target : Target). part (result_of plan) target.start (length plan.root)) c.self.invariant.target ∙ root_in_result plan plan refl c.self.invariant.planned)
