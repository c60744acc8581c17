use Rattle.cli_where.specs.Lines.{line_with}
use Rattle.cli_where.proofs.structure_lines.print_structure.Goals as goal

pub returns-in-Entry : goal.returns-in-Entry
unfolding line_with
returns-in-Entry g c =
    rw (c.in-Entry.is, ← c.entry_word.ensures, ← c.name.ensures, ← c.number.ensures.value, ← c.name-in-Entry.ensures, ← c.column_number.ensures, ← c.column_name.ensures) c.line.ensures

pub returns-in-UserString : goal.returns-in-UserString
unfolding line_with
returns-in-UserString g c = rw (c.in-UserString.is, ← c.name-in-UserString.ensures) c.line-in-UserString.ensures
