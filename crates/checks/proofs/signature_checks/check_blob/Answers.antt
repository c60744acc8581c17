use Rattle.std.proofs.lemmas.Option.{same_Some}
use Rattle.checks.proofs.Encodings.{is_met, no_signature, no_row}
use Rattle.checks.proofs.signature_checks.check_blob.Goals as goal

pub returns-in-Some-None : goal.returns-in-Some-None
returns-in-Some-None c = λ number is offset.
    is_met c.args.source.now.source c.counts.result.now c.counts.ensures c.args.column number offset c.args.blob.now is
    (rw c.in-Some-None.field-0-is at c.in-Some-None.ensures.sound)

pub returns-in-Some-Some : goal.returns-in-Some-Some
returns-in-Some-Some c = λ number is offset.
    no_row c.args.source.now.source c.counts.result.now c.counts.ensures c.args.column number offset c.args.blob.now c.in-Some-Some.field-0-0 is
    (λ other also. c.entries_are_one.ensures.blob c.args.source.now.source.blobs number c.args.blob.now other is also)
    (rw c.in-Some-Some.field-0-is at c.in-Some-Some.ensures.sound)
    (λ signature encodes. same_Some _ _ (rw c.in-Some-Some.field-0-is at c.in-Some-Some.ensures.complete signature encodes))

pub returns-in-None : goal.returns-in-None
returns-in-None c = λ number is offset.
    no_signature c.args.source.now.source c.args.column number offset
    (λ other also signature encodes.
    let same = c.entries_are_one.ensures.blob c.args.source.now.source.blobs number c.args.blob.now other is also in
    let e = c.in-None.ensures.complete signature (rw (← same) at encodes) in
    absurd cc)
