use Rattle.std.proofs.Common.{inl}
use Rattle.cli_files.proofs.check.check_one.Goals as goal

pub returns-in-Ok-clause-checked : goal.returns-in-Ok-clause-checked
returns-in-Ok-clause-checked g c = inl (c.as_slice.result.now, rw c.as_slice.ensures.value c.in-Ok.ensures.read, rw c.status.ensures.status c.check_bytes-outcome.ensures)
