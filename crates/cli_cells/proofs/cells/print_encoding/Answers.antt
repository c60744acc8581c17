use Rattle.cli_cells.proofs.PartLemmas.{adds_text, signature_text_is}
use Rattle.cli_cells.proofs.cells.print_encoding.Goals as goal

pub returns-in-Text : goal.returns-in-Text
returns-in-Text g c = λ signature encodes. adds_text _ _ _ _ c.form.ensures c.in-Text.is (signature_text_is c.args.names c.args.name c.args.encoding.now _) c.print_part.ensures

pub returns-in-Err : goal.returns-in-Err
returns-in-Err g c = λ signature encodes. c.fail.ensures.parts _
