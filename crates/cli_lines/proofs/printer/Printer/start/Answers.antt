use Rattle.cli_lines.proofs.Prelude.{None, sym}
use Rattle.cli_lines.proofs.PrintedLemmas.{begins_cut, started}
use Rattle.cli_lines.proofs.printer.Printer.start.Goals as goal

pub returns-in-Some : goal.returns-in-Some
returns-in-Some g c = rw (sym c.self.view_is, c.in-Some.is) (begins_cut _ _ _ _ _ None _)

pub returns-in-Ok : goal.returns-in-Ok
returns-in-Ok g c = rw (sym c.self.view_is, c.in-None.is) (started _ _ _ _ _ _ c.push_lead.new.line.items c.in-Ok.ensures)

pub returns-in-Err : goal.returns-in-Err
returns-in-Err g c = rw (sym c.self.view_is) (begins_cut _ _ _ _ _ _ _)
