use Rattle.checks.proofs.Prelude.{false≢true}
use Rattle.checks.proofs.blobs.has_blob.Goals as goal

pub returns-in-Err : goal.returns-in-Err
returns-in-Err c = (λ no. absurd (false≢true no), λ found. absurd (c.in-Err.ensures.complete found.0 found.1))
