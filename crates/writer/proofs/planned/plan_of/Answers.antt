use Rattle.writer.proofs.Prelude.{◌≡◌, ◌<◌, IfErr, length, subst, canonical}
use Rattle.writer.specs.declared.plan_error.PlanError.TheVariants.{TooLarge}
use Rattle.writer.proofs.planned.plan_of.Goals as goal

pub returns-clause-fits : goal.returns-clause-fits
returns-clause-fits g c model is = c.of.ensures.fits model (c.outline_of.ensures model is) (c.in_ok-texts.ensures.pools model is)

pub returns-clause-too_large : goal.returns-clause-too_large
returns-clause-too_large g c model is large =
    let reported = c.of.ensures.too_large model (c.outline_of.ensures model is) (c.in_ok-texts.ensures.pools model is) in
    (subst (λ planned. IfErr planned (λ error. (error ≡ TooLarge) × (c.args.limit < length (canonical model)))) large reported).1
