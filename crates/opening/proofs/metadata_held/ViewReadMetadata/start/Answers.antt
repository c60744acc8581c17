use Rattle.opening.proofs.metadata_held.ViewReadMetadata.start.Goals as goal

pub returns : goal.returns
returns c = λ model is. c.start_at.ensures model (c.source.ensures.read model is)
