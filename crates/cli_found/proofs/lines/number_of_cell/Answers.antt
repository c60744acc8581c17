use Rattle.std.proofs.Common.{refl}
use Rattle.cli_found.proofs.lines.number_of_cell.Goals as goal

pub returns-in_err-number : goal.returns-in_err-number
returns-in_err-number c = rw (c.from_residual.ensures, ← c.in_err-number.ensures) refl

pub returns : goal.returns
returns c = rw (← c.in_ok-number.ensures, c.coded_of.ensures, c.kind_of.ensures, c.from.ensures, c.limit_of.ensures) refl
