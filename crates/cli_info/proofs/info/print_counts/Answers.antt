use Rattle.cli_info.proofs.Prelude.{counts_line}
use Rattle.cli_info.proofs.info.print_counts.Goals as goal

pub returns : goal.returns
unfolding counts_line
returns g c = λ model is.
    rw (← c.count.ensures.model model is, ← c.count-2.ensures.model model is, ← c.count-3.ensures.model model is, ← c.count-resources.ensures.model model is) c.line.ensures
