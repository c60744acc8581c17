use Rattle.std.proofs.Common.{refl}
use Rattle.cli_cells.specs.Shown.{IsContent, content_of}
use Rattle.cli_found.proofs.values.add_reference.Goals as goal

pub returns-then-not-is_reference : goal.returns-then-not-is_reference
returns-then-not-is_reference g c = λ model is. rw (← c.is_reference.ensures.value model is, c.if-not-is_reference.true) (c.parts_follow.ensures.nothing _)

pub returns : goal.returns
returns g c = λ model is.
    let shows : IsContent c.new-cells.result (content_of model) = (model, rw c.new-cells.ensures is, refl) in
    rw (← c.is_reference.ensures.value model is, c.if-not-is_reference.false, ← c.column_number-cell_index.ensures) (c.print_cell.ensures.part (content_of model) shows)
