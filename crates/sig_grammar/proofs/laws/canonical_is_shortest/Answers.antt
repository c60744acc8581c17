use Rattle.sig_grammar.proofs.Encoded.{encoded_shorter}
use Rattle.sig_grammar.proofs.laws.canonical_is_shortest.Goals as goal

pub returns : goal.returns
returns c = let forms = c.shortest_forms_encode.ensures in encoded_shorter forms.unsigned_least forms.signed_least
