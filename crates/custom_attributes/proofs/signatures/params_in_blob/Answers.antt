use Rattle.custom_attributes.proofs.Prelude.{arith, items_of}
use Rattle.custom_attributes.proofs.LengthLemmas.{short_encoding}
use Rattle.custom_attributes.proofs.ParamLemmas.{many_items}
use Rattle.custom_attributes.proofs.signatures.params_in_blob.Goals as goal

pub returns-then-blob-gt-LONGEST : goal.returns-then-blob-gt-LONGEST
returns-then-blob-gt-LONGEST g c = λ model is signature encodes.
    let same = c.items_are_encoded.ensures.encoded signature (c.encoded_is_encodable.ensures c.args.kind signature c.args.blob.now encodes) in
    let short = short_encoding c.args.kind signature c.args.blob.now encodes same in
    let long = c.if-blob-gt-LONGEST.true in
    many_items model (items_of signature) (omega (arith, long, short))
