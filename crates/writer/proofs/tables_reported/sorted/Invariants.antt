use Rattle.writer.proofs.Prelude.{◌≡◌, ◌+◌, drop, tables, bits_of, Metadata, is_sorted}
use Rattle.writer.proofs.tables_reported.sorted.Given as goal

-- together with the bits of the tables that are left this is the whole
abbrev pub invariant-loop-table : goal.invariant-loop-table
invariant-loop-table g l = (model : Metadata) → g.S.ReadMetadata.shows l.source model → l.sorted + bits_of (is_sorted model) (drop l.table-index tables) ≡ bits_of (is_sorted model) tables
