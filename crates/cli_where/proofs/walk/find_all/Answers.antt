use Rattle.cli_where.proofs.Prelude.{◌∙◌, ap, sym, adds_find, broken_layer, finds_then, whole_layer}
use Rattle.pe.specs.Headers.{image_of}
use Rattle.pe.specs.Image.{Image}
use Rattle.pe.specs.Rules.{rules_of_image}
use Rattle.cli_where.proofs.walk.find_all.Goals as goal

pub returns-in-BareRoot : goal.returns-in-BareRoot
returns-in-BareRoot c = rw c.in-BareRoot.is c.find_in_root.ensures

pub returns-in_default : goal.returns-in_default
returns-in_default c = rw c.in-File.is (broken_layer (rules_of_image c.args.bytes.now) c.in_default.field-0 c.args.found.now c.in_default.ensures.first_error)

pub find_pe-requires-clause-rules : goal.find_pe-requires-clause-rules
find_pe-requires-clause-rules c = rw c.in-Ok.ensures.all.1 c.in-Ok.ensures.all.0

pub find_pe-requires-clause-image : goal.find_pe-requires-clause-image
find_pe-requires-clause-image c = c.in-Ok.ensures.all.1 ∙ ap (λ (image : Image). image_of image.bytes) (sym c.in-Ok.ensures.all.1)

pub returns-in-Ok : goal.returns-in-Ok
returns-in-Ok c =
    let said = c.in-Ok.ensures.all.1 in
    rw c.in-File.is (whole_layer (rules_of_image c.args.bytes.now) c.in-Ok.ensures.all.0 (finds_then (adds_find (rw said at c.find_pe.ensures)) (rw said at c.find_in_image.ensures)))
