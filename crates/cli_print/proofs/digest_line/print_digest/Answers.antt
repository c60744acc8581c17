use Rattle.cli_print.proofs.digest_line.print_digest.Goals as goal

pub returns-in-Err : goal.returns-in-Err
returns-in-Err g c = c.fail.ensures.lines _
