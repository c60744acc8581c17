use Rattle.pe.proofs.ImageLemmas.{FieldsAreParts, image_meets, image_from_rules}
use Rattle.pe.proofs.laws.images_are_read.Goals as goal

known : goal.After-fields_are_parts → FieldsAreParts
known c = record { said = c.fields_are_parts.ensures.said; stand = c.fields_are_parts.ensures.stand }

pub returns : goal.returns
returns c = record {
  rules_hold = λ file image is. (image_meets (known c) file image is).all;
  said = λ file image is. (image_meets (known c) file image is).is;
  sound = image_from_rules (known c);
}
