use Rattle.sig_grammar.specs.Grammar.{body_parts}
use Rattle.signatures.proofs.LongFormLemmas.{short_parts_of}
use Rattle.signatures.proofs.long_forms.is_plainly_canonical.Goals as goal

pub returns : goal.returns
returns c is kind signature encodes =
    short_parts_of c.shortest_forms_encode.ensures.fits (body_parts signature) c.args.blob.now (c.has_no_long_form.ensures.0 is) encodes.parts
