use Rattle.cli_found.proofs.flags.print_flags.Goals as goal

pub returns-in-Err : goal.returns-in-Err
returns-in-Err g c = c.fail.ensures.parts _
