use Rattle.cli_where.specs.Lines.{line_with}
use Rattle.cli_where.proofs.structure_lines.print_cell.Goals as goal

pub returns-then-is_padding : goal.returns-then-is_padding
unfolding line_with
returns-then-is_padding g c =
    rw (← c.is_padding.ensures, c.if-is_padding.true, ← c.number.ensures.value, ← c.name.ensures) c.line.ensures

pub returns-else-is_padding : goal.returns-else-is_padding
unfolding line_with
returns-else-is_padding g c =
    rw (← c.is_padding.ensures, c.if-is_padding.false, ← c.number-else-is_padding.ensures.value, ← c.name-else-is_padding.ensures, ← c.column_number.ensures, ← c.column_name.ensures)
    c.line-else-is_padding.ensures
