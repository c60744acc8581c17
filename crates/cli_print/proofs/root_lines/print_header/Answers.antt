use Rattle.cli_print.proofs.root_lines.print_header.Goals as goal

pub returns-in-None : goal.returns-in-None
returns-in-None g c = rw c.in-None.is (c.lines_follow.ensures.nothing c.args.out.now)
