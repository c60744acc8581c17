use Rattle.root_writer.proofs.Prelude.{◌≡◌, length, drop, sum_by, tables}
use Rattle.root_writer.specs.Flat.{cells_of}
use Rattle.root_writer.proofs.RowLemmas.{IsPutting}
use Rattle.root_writer.proofs.TableLemmas.{bytes_in}
use Rattle.root_writer.proofs.writer.Writer.put_tables.Given as goal

-- together with the tables that are left this is the whole
abbrev pub invariant-loop-table : goal.invariant-loop-table
invariant-loop-table l = record {
  putting : IsPutting l.fn.self l.self (bytes_in l.layout (drop l.table-index tables) l.tail) (bytes_in l.layout tables l.numbers);
  many : length l.tail ≡ sum_by (cells_of l.layout) (drop l.table-index tables);
}
