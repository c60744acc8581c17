use Rattle.sig_grammar.proofs.Bodies.{short_is_encoding}
use Rattle.sig_grammar.proofs.laws.shortest_encodes.Goals as goal

pub returns : goal.returns
returns c = let forms = c.shortest_forms_encode.ensures in short_is_encoding forms.unsigned forms.signed
