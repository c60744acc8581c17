use Rattle.file_ranges.proofs.LocationLemmas.{stored_found, stored_only}
use Rattle.file_ranges.proofs.location.content_in.Goals as goal

pub returns-in-Some-clause-sound : goal.returns-in-Some-clause-sound
returns-in-Some-clause-sound c = λ file header of.
    stored_found file header c.args.relative c.in-Some.directory (rw c.in-Some.is at of) c.content.result c.content.ensures.sound c.content.ensures.offset

pub returns-in-Some-clause-complete : goal.returns-in-Some-clause-complete
returns-in-Some-clause-complete c = λ file header of offset content stored.
    stored_only file header c.args.relative c.in-Some.directory (rw c.in-Some.is at of) (c.images_are_read.ensures.said file) c.fields_are_parts.ensures.said
    offset content stored c.content.result c.content.ensures.complete c.content.ensures.offset

pub returns-in-None-clause-complete : goal.returns-in-None-clause-complete
returns-in-None-clause-complete c = λ file header of offset content stored.
    (rw c.in-None.is at of) stored.start stored.directory stored.is_directory
