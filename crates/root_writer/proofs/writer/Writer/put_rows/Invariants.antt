use Rattle.root_writer.proofs.Prelude.{◌≡◌, ◌*◌, ◌-◌, length, columns_of, count_of, rows_bytes}
use Rattle.root_writer.specs.Flat.{rows_in, table_in}
use Rattle.root_writer.proofs.RowLemmas.{IsPutting}
use Rattle.root_writer.proofs.writer.Writer.put_rows.Given as goal

-- together with the rows that are left this is the whole table
abbrev pub invariant-loop-row : goal.invariant-loop-row
invariant-loop-row l = record {
  putting : IsPutting l.fn.self l.self (rows_bytes l.layout (columns_of l.table) (rows_in (length (columns_of l.table)) (count_of l.layout l.table - l._row) l.tail))
      (rows_bytes l.layout (columns_of l.table) (table_in l.layout l.table l.numbers));
  many : length l.tail ≡ length (columns_of l.table) * (count_of l.layout l.table - l._row);
}
