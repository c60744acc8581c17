use Rattle.cli_lines.proofs.Prelude.{map, take, Adds, shown}
use Rattle.cli_lines.proofs.printer.Printer.parts.Given as goal

abbrev pub invariant-loop-part : goal.invariant-loop-part
invariant-loop-part g l = Adds l.initial.self l.self (map shown (take l.part-index l.parts))
