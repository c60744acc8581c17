use Rattle.std.proofs.Common.{refl}
use Rattle.cli.proofs.task.where_of.Goals as goal

pub returns-in-Some-offset_of : goal.returns-in-Some-offset_of
returns-in-Some-offset_of c = rw c.in-Some.is (c.in-Some-offset_of.offset, c.in-Some-offset_of.ensures, refl)

pub returns-in-None : goal.returns-in-None
returns-in-None c = rw c.in-Some.is (refl, c.in-None.ensures)
