use Rattle.cli_lines.proofs.Prelude.{None, sym}
use Rattle.cli_lines.proofs.PrintedLemmas.{added, adds_cut}
use Rattle.cli_lines.proofs.printer.Printer.part.Goals as goal

pub returns-in-Some : goal.returns-in-Some
returns-in-Some g c = rw (sym c.self.view_is, c.in-Some.is) (adds_cut _ _ _ _ _ None _)

pub returns-in-Ok : goal.returns-in-Ok
returns-in-Ok g c = rw (sym c.self.view_is, c.in-None.is) (added _ _ _ _ _ _ c.push_part.new.line.items _ _ c.in-Ok.ensures)

pub returns-in-Err : goal.returns-in-Err
returns-in-Err g c = rw (sym c.self.view_is) (adds_cut _ _ _ _ _ _ _)
