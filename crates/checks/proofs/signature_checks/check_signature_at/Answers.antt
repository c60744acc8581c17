use Rattle.checks.proofs.Encodings.{no_signature}
use Rattle.checks.proofs.signature_checks.check_signature_at.Goals as goal

pub returns-in-Err : goal.returns-in-Err
returns-in-Err c = λ offset.
    no_signature c.args.source.now.source c.args.column c.args.number offset
    (λ blob is signature encodes. (rw c.blobs.ensures at c.in-Err.ensures.complete) blob is)
