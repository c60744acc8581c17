use Rattle.cli_print.proofs.root_lines.print_streams.Goals as goal

pub loop-header-preserved : goal.loop-header-preserved
loop-header-preserved g c = λ later printed. c.loop-header.invariant later (rw c.in-Some.ensures.steps (c.lines_follow.ensures.more _ _ _ _ _ c.print_stream.ensures printed))

pub returns : goal.returns
returns g c = c.loop-header.invariant c.loop-header.out (rw c.in-None.ensures.steps.0 (c.lines_follow.ensures.nothing c.loop-header.out))
