use Rattle.cli_roots.proofs.Prelude.{refl, difference_line}
use Rattle.cli_cells.specs.Shown.{content_of}
use Rattle.cli_roots.proofs.differences.print_cells.Goals as goal

pub returns-clause-line : goal.returns-clause-line
unfolding difference_line
returns-clause-line g c = λ model other is also.
    let more = c.parts_follow.ensures.more in
    rw (← c.column_name.ensures) (c.parts_follow.ensures.line _ _ _ _ _ _ c.begin.ensures
    (more _ _ _ _ _ (c.print_cell.ensures.part (content_of model) (model, is, refl))
    (more _ _ _ _ _ c.part.ensures (c.print_cell-2.ensures.part (content_of other) (other, also, refl)))) c.end.ensures)
