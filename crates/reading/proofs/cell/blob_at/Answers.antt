use Rattle.reading.proofs.cell.blob_at.Goals as goal

pub unreachable-requires : goal.unreachable-requires
unreachable-requires c = c.requires (λ some. c.in-Err.ensures.complete some.0 some.1)
