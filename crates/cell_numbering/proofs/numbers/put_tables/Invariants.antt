use Rattle.cell_numbering.proofs.Prelude.{◌≡◌, drop, tables, Metadata, with_tables}
use Rattle.cell_numbering.proofs.numbers.put_tables.Given as goal

-- together with the tables that are left these are all tables
abbrev pub invariant-loop-table : goal.invariant-loop-table
invariant-loop-table g l =
    (model : Metadata) → g.S.ReadMetadata.shows l.source model
    → with_tables l.indexes model (drop l.table-index tables) l.so_far ≡ with_tables l.indexes model tables l.fn.so_far
