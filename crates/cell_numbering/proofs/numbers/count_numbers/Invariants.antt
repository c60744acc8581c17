use Rattle.std.proofs.Common.{◌*◌, ◌≤◌}
use Rattle.cell_numbering.proofs.numbers.count_numbers.Given as goal

-- each table has at most 150994935 numbers
abbrev pub invariant-loop-table : goal.invariant-loop-table
invariant-loop-table g l = l.count ≤ 150994935 * l.table-index
