use Rattle.root_writer.proofs.canonical_laws.canonical_root_has_its_model.Goals as goal

pub returns : goal.returns
returns c = c.valid_models_are_encoded.ensures.model
