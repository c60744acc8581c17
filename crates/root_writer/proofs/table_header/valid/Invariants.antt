use Rattle.root_writer.proofs.Prelude.{◌≡◌, ◌+◌, drop, tables, bits_of}
use Rattle.root_writer.specs.TableHeader.{is_counted}
use Rattle.root_writer.proofs.table_header.valid.Given as goal

-- together with the bits of the tables that are left this is the whole
abbrev pub invariant-loop-table : goal.invariant-loop-table
invariant-loop-table l = l.valid + bits_of (is_counted l.layout) (drop l.table-index tables) ≡ bits_of (is_counted l.layout) tables
