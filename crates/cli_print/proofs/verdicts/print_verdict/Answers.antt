use Rattle.cli_print.proofs.verdicts.print_verdict.Goals as goal

pub returns : goal.returns
returns g c = c.parts_follow.ensures.line _ _ _ _ _ _ c.begin_with.ensures c.add_outcome.ensures c.end.ensures
