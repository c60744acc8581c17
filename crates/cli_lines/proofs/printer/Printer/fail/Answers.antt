use Rattle.cli_lines.proofs.Prelude.{None, sym}
use Rattle.cli_lines.proofs.PrintedLemmas.{adds_cut, prints_cut}
use Rattle.cli_lines.proofs.printer.Printer.fail.Goals as goal

pub returns-in-Some-clause-parts : goal.returns-in-Some-clause-parts
returns-in-Some-clause-parts g c = λ parts. rw (sym c.self.view_is, c.in-Some.is) (adds_cut _ _ _ _ _ None parts)

pub returns-in-Some-clause-lines : goal.returns-in-Some-clause-lines
returns-in-Some-clause-lines g c = λ lines. rw (sym c.self.view_is, c.in-Some.is) (prints_cut _ _ _ _ _ None lines)

pub returns-in-None-clause-parts : goal.returns-in-None-clause-parts
returns-in-None-clause-parts g c = λ parts. rw (sym c.self.view_is) (adds_cut _ _ _ _ _ _ parts)

pub returns-in-None-clause-lines : goal.returns-in-None-clause-lines
returns-in-None-clause-lines g c = λ lines. rw (sym c.self.view_is) (prints_cut _ _ _ _ _ _ lines)
