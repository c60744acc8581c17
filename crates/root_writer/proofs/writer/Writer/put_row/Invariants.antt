use Rattle.root_writer.proofs.Prelude.{drop, columns_of, row_bytes}
use Rattle.root_writer.proofs.RowLemmas.{IsPutting}
use Rattle.root_writer.proofs.writer.Writer.put_row.Given as goal

-- together with the columns that are left this is the whole row
abbrev pub invariant-loop-column : goal.invariant-loop-column
invariant-loop-column l =
    IsPutting l.fn.self l.self (row_bytes l.layout (drop l.column (columns_of l.table)) (drop l.column l.numbers)) (row_bytes l.layout (columns_of l.table) l.numbers)
