use Rattle.std.proofs.Common.{refl}
use Rattle.cli.proofs.task.show_of.Goals as goal

pub returns-in-Some-table_of : goal.returns-in-Some-table_of
returns-in-Some-table_of c = rw c.in-Some.is (c.in-Some-table_of.table, c.in-Some-table_of.ensures.sound, c.shown-in-Some-table_of.ensures)

pub returns-in-None : goal.returns-in-None
returns-in-None c = rw c.in-Some.is ((c.nearest_table.result, refl), (λ table names. let wrong = c.in-None.ensures.complete table names in cc))
