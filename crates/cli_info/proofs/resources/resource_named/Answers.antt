use Rattle.cli_info.proofs.Prelude.{refl}
use Rattle.cli_info.proofs.OfFiles.{of_file}
use Rattle.cli_info.proofs.resources.resource_named.Goals as goal

pub returns-in_default-clause-unfound : goal.returns-in_default-clause-unfound
returns-in_default-clause-unfound c = of_file _ _ _ c.in-Ok.ensures.opened (λ header model is. c.in_default.ensures.none model is.1)

pub returns-in-Ok-Here-clause-sound : goal.returns-in-Ok-Here-clause-sound
returns-in-Ok-Here-clause-sound c = of_file _ _ _ c.in-Ok.ensures.opened (λ header model is. (
  c.in-Some.row,
  c.in-Some.ensures.sound model is.1,
  c.in-Ok-Here.content.offset,
  rw c.in-Ok-Here.field-0-is at (c.in-Ok-Here.ensures.sound c.args.file.now header model is.0 is.1),
))

pub returns-in-Ok-Elsewhere-clause-unfound : goal.returns-in-Ok-Elsewhere-clause-unfound
returns-in-Ok-Elsewhere-clause-unfound c = rw c.resource_in.ensures (
  refl,
  of_file _ _ _ c.in-Ok.ensures.opened (λ header model is. (
    c.in-Some.ensures.sound model is.1,
    c.in-Ok-Elsewhere.field-0-0,
    rw c.in-Ok-Elsewhere.field-0-is at (c.in-Ok-Elsewhere.ensures.sound c.args.file.now header model is.0 is.1),
  )),
)

pub returns-in-Err-location_of-clause-unfound : goal.returns-in-Err-location_of-clause-unfound
returns-in-Err-location_of-clause-unfound c = rw c.resource_in-in-Err-location_of.ensures (
  refl,
  of_file _ _ _ c.in-Ok.ensures.opened (λ header model is.
      (c.in-Some.ensures.sound model is.1, c.in-Err-location_of.ensures.complete c.args.file.now header model is.0 is.1)),
)
