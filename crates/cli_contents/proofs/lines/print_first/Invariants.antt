use Rattle.cli_contents.proofs.Prelude.{◌+◌, map, take, Metadata, IsModel, Printed, Prints, contents_at, contents_from, content_limit, row_line}
use Rattle.cli_contents.proofs.lines.print_first.Given as goal

-- the lines of the rows that are left complete those of all
abbrev pub invariant-loop-row : goal.invariant-loop-row
invariant-loop-row g l =
    (model : Metadata) (later : Printed _) → IsModel l.source.view.now model
    → Prints l.out later (map (row_line l.kind model) (take l.left (contents_from l.kind l.pe model l.offset l.row (l.count + 1))))
    → Prints l.initial.out later (map (row_line l.kind model) (take content_limit (contents_at l.kind l.pe model l.offset)))
