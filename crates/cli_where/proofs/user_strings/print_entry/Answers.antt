use Rattle.cli_where.proofs.user_strings.print_entry.Goals as goal

pub returns-in-None : goal.returns-in-None
returns-in-None g c = rw (← c.in-None.ensures) (c.lines_follow.ensures.nothing c.args.out.now)
