use Rattle.cli_where.proofs.entries.blob_at.Goals as goal

pub returns-in_err-size-clause-none : goal.returns-in_err-size-clause-none
returns-in_err-size-clause-none c = rw c.from_residual.ensures (λ start size is has. c.in_err-size.ensures.complete is.blob is.stands)
