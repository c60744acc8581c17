use Rattle.c_values.proofs.Prelude.{take, all_said, AreCells}
use Rattle.c_values.proofs.read_rows.read_row.Given as goal

-- the cells so far are the first cells that are given
abbrev pub invariant-loop-column : goal.invariant-loop-column
invariant-loop-column l = AreCells l.table 0 (take l.column l.given) (all_said l.cells.items)
