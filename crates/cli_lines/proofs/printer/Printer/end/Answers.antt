use Rattle.cli_lines.proofs.Prelude.{None, sym, shown_file}
use Rattle.cli_lines.proofs.PrintedLemmas.{ended, ended_cut, ends_cut}
use Rattle.cli_lines.proofs.printer.Printer.end.Goals as goal

pub returns-in-Some : goal.returns-in-Some
returns-in-Some g c = rw (sym c.self.view_is, c.in-Some.is) (ends_cut _ _ _ _ _ None)

pub returns-in-Ok : goal.returns-in-Ok
returns-in-Ok g c = rw (sym c.self.view_is, c.in-None.is) (ended _ _ _ _ _ _ _ _ c.end_line.new.waiting.items (c.in-Ok.ensures (shown_file c.self.inside.file)))

pub returns-in-Err : goal.returns-in-Err
returns-in-Err g c = rw (sym c.self.view_is, c.in-None.is) (ended_cut _ _ _ _ _ _ _ _ (c.in-Err.ensures (shown_file c.self.inside.file)))
