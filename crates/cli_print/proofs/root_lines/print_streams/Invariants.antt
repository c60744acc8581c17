use Rattle.cli_print.proofs.Prelude.{map, Printed, Prints, stream_line}
use Rattle.cli_print.proofs.root_lines.print_streams.Given as goal

-- the lines of what is left complete the report
abbrev pub invariant-loop-header : goal.invariant-loop-header
invariant-loop-header g l =
    (later : Printed _) → Prints l.out later (map stream_line l.header-iterator) → Prints l.initial.out later (map stream_line l.fn.headers)
