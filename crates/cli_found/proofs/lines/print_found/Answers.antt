use Rattle.cli_found.proofs.Prelude.{refl, value_line}
use Rattle.cli_found.proofs.lines.print_found.Goals as goal

pub returns-in-Some : goal.returns-in-Some
unfolding value_line
returns-in-Some g c =
    (_, (_, c.in-Some.ensures, refl), c.parts_follow.ensures.line _ _ _ _ _ _ c.begin_number.ensures c.add_limit.ensures c.end.ensures)

pub returns-in-None : goal.returns-in-None
returns-in-None g c = (_, (_, c.in-None.ensures, refl), c.print_offset.ensures)
