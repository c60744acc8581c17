use Rattle.sig_grammar.specs.Views.{body_of}
use Rattle.signatures.proofs.signature.decode.Goals as goal

pub invariant_of-result : goal.invariant_of-result
invariant_of-result c = c.encoded_is_encodable.ensures c.args.kind (body_of c.in_ok-body.body) c.args.bytes.now c.in_ok-body.ensures.sound
