use Rattle.metadata.proofs.ValidLemmas.{is_valid}
use Rattle.metadata.proofs.laws.models_of_roots_are_valid.Goals as goal

pub returns : goal.returns
returns c = is_valid (record { holds = c.cells_stand.ensures; encodable = c.encoded_is_encodable.ensures })
