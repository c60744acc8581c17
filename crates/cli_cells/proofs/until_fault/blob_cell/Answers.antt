use Rattle.cli_cells.proofs.Prelude.{ap, arith, signature_of}
use Rattle.cli_cells.proofs.ReadLemmas.{no_signature}
use Rattle.cli_cells.proofs.until_fault.blob_cell.Goals as goal

pub returns-then-recognise : goal.returns-then-recognise
returns-then-recognise c =
    let some = c.recognise.ensures.encoded.0 c.if-recognise.true in
    (some.0, some.1, ap (signature_of c.args.blob.now) (c.signatures_are_read.ensures.read c.args.kind some.0 c.args.blob.now some.1))

pub returns-else-recognise : goal.returns-else-recognise
returns-else-recognise c =
    no_signature c.args.kind c.args.blob.now (λ signature is.
    let encoded = c.signatures_are_read.ensures.encoded c.args.kind signature c.args.blob.now (λ k. omega (arith, c.type_inv.blob k)) c.requires is in
    let found = c.recognise.ensures.encoded.1 (signature, encoded) in
    let none = c.if-recognise.false in
    cc)
