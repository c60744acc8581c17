use Rattle.metadata.proofs.FileLemmas.{AreRead, file_met, file_found, file_one}
use Rattle.metadata.proofs.laws.files_have_models.Goals as goal

read : goal.After-models_are_read → AreRead
read c = record {
  image_rules_hold = c.images_are_read.ensures.rules_hold;
  image_said = c.images_are_read.ensures.said;
  image_found = c.images_are_read.ensures.sound;
  header_rules_hold = c.headers_are_read.ensures.rules_hold;
  header_said = c.headers_are_read.ensures.said;
  header_found = c.headers_are_read.ensures.sound;
  met = c.roots_have_models.ensures.met;
  found = c.roots_have_models.ensures.sound;
  one = c.roots_have_models.ensures.one;
  count = c.models_are_read.ensures.count;
}

pub returns : goal.returns
returns c = record { met = file_met (read c); sound = file_found (read c); one = file_one (read c) }
