use Rattle.file_ranges.proofs.LocationLemmas.{nowhere, only_elsewhere, only_here}
use Rattle.file_ranges.proofs.location.location_of.Goals as goal

pub returns-in-Some-clause-complete : goal.returns-in-Some-clause-complete
returns-in-Some-clause-complete c = λ file header model of is location located. only_elsewhere file header model c.args.row c.in-Some.token (c.in-Some.ensures.value model is) location located

pub returns-in-Some-content_in-clause-sound : goal.returns-in-Some-content_in-clause-sound
returns-in-Some-content_in-clause-sound c = λ file header model of is.
    (c.in-None.ensures.value model is, c.number-relative.result, c.number-relative.ensures model is, c.in-Some-content_in.ensures.sound file header of)

pub returns-in-Some-content_in-clause-complete : goal.returns-in-Some-content_in-clause-complete
returns-in-Some-content_in-clause-complete c = λ file header model of is.
    let found = c.in-Some-content_in.content in
    only_here file header model c.args.row c.number-relative.result (c.in-None.ensures.value model is) (c.number-relative.ensures model is) found.offset found.bytes.now
    (c.in-Some-content_in.ensures.complete file header of)

pub returns-in-None-content_in-clause-complete : goal.returns-in-None-content_in-clause-complete
returns-in-None-content_in-clause-complete c = λ file header model of is.
    nowhere file header model c.args.row c.number-relative.result (c.in-None.ensures.value model is) (c.number-relative.ensures model is)
    (c.in-None-content_in.ensures.complete file header of)
