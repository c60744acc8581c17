use Rattle.cli_info.proofs.Prelude.{arith, le-ltb, lt-ltb, Module, count_in, module_line}
use Rattle.cli_info.proofs.info.print_module.Goals as goal

pub returns-then-count-gt0 : goal.returns-then-count-gt0
unfolding module_line
returns-then-count-gt0 g c = λ model is.
    rw (lt-ltb 0 (count_in model Module) (omega (arith, c.count.ensures.model model is, c.if-count-gt0.true)), ← c.text_or_empty-name.ensures model is, ← c.guid_or_null-mvid.ensures model is)
    c.line.ensures

pub returns-else-count-gt0 : goal.returns-else-count-gt0
returns-else-count-gt0 g c = λ model is.
    rw (le-ltb 0 (count_in model Module) (omega (arith, c.count.ensures.model model is, c.if-count-gt0.false))) (c.lines_follow.ensures.nothing _)
