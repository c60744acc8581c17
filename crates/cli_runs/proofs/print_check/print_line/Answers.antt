use Rattle.cli_runs.proofs.print_check.print_line.Goals as goal

pub returns-in-Quiet : goal.returns-in-Quiet
returns-in-Quiet g c = rw c.in-Quiet.is (c.lines_follow.ensures.nothing c.args.out.now)
