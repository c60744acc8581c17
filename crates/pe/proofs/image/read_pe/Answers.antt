use Rattle.pe.proofs.Prelude.{arith, common_steps}
use Rattle.pe.proofs.ImageLemmas.{reports_all, reports_first, reports_found, reports_only}
use Rattle.pe.proofs.image.read_pe.Goals as goal

pub returns-clause-sound : goal.returns-clause-sound
returns-clause-sound c =
    reports_found c.args.bytes.now c.check_image.result c.check_image.ensures.reports c.check_image.ensures.image (c.images_are_read.ensures.sound c.args.bytes.now)

pub returns-clause-complete : goal.returns-clause-complete
returns-clause-complete c = λ image is.
    reports_only c.args.bytes.now image c.check_image.result c.check_image.ensures.reports c.check_image.ensures.image
    (c.images_are_read.ensures.rules_hold c.args.bytes.now image is) (c.images_are_read.ensures.said c.args.bytes.now image is)

pub returns-clause-within : goal.returns-clause-within
returns-clause-within c = grind (arith, common_steps)

pub returns-clause-all : goal.returns-clause-all
returns-clause-all c = reports_all c.args.bytes.now c.check_image.result c.check_image.ensures.reports c.check_image.ensures.image

pub returns-clause-first_error : goal.returns-clause-first_error
returns-clause-first_error c = reports_first c.args.bytes.now c.check_image.result c.check_image.ensures.reports
