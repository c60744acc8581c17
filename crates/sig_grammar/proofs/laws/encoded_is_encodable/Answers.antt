use Rattle.sig_grammar.proofs.Encoded.{encoded_encodable}
use Rattle.sig_grammar.proofs.laws.encoded_is_encodable.Goals as goal

pub returns : goal.returns
returns c = let forms = c.shortest_forms_encode.ensures in encoded_encodable forms.unsigned_least forms.signed_least forms.unsigned_below forms.signed_fits
