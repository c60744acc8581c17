use Rattle.cli_cells.proofs.cells.print_signature.Goals as goal

pub returns-in-Err : goal.returns-in-Err
returns-in-Err g c = λ signature encodes. c.fail.ensures.parts _
