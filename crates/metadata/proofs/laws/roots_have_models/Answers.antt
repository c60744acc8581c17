use Rattle.metadata.proofs.StandsLemmas.{AreOne}
use Rattle.metadata.proofs.ModelLemmas.{AreRead, model_met, model_found, model_one}
use Rattle.metadata.proofs.laws.roots_have_models.Goals as goal

read : goal.After-signatures_are_read → AreRead
read c = record {
  root_rules_hold = c.roots_are_read.ensures.rules_hold;
  root_said = c.roots_are_read.ensures.said;
  root_found = c.roots_are_read.ensures.sound;
  stream_rules_hold = c.streams_are_read.ensures.rules_hold;
  stream_said = c.streams_are_read.ensures.said;
  stream_found = c.streams_are_read.ensures.sound;
  numbers_are = c.numbers_are_read.ensures.is;
}

one : goal.After-signatures_are_read → AreOne
one c = record {
  text = c.entries_are_one.ensures.text;
  blob = c.entries_are_one.ensures.blob;
  guid = c.entries_are_one.ensures.guid;
  signature = c.signatures_are_read.ensures.one;
}

pub returns : goal.returns
returns c = record { met = λ offset root model is. model_met (read c) root model is offset; sound = model_found (read c); one = model_one (read c) (one c) }
