use Rattle.embedding.proofs.Found.{Laws, found}
use Rattle.embedding.proofs.laws.embedded_roots_are_found.Goals as goal

pub returns : goal.returns
returns c = λ name file root result model bytes it is.
    let laws : Laws = record {
      said = c.fields_are_parts.ensures.said;
      stand = c.fields_are_parts.ensures.stand;
      images = c.images_are_read.ensures.sound;
      headers = c.headers_are_read.ensures.sound;
      counts = c.models_are_read.ensures.count;
    } in
    found laws name file root result model bytes it is
