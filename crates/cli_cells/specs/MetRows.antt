-- The rows of a root before the first that breaks a rule for cells, and what they are read with (ECMA-335 II.22).
use Rattle.std.specs.Prelude.{ℕ, ◌-◌, ◌==◌, nat_lt, if◌then◌else◌, Option, Some, None}
use Rattle.cli_cells.specs.Words.{TableId, table_index_of, Source, rows_in, SourceAt, IsFirstBroken, BrokenRow}
use Rattle.reading.specs.KnownStarts.{AreKnown}
use Rattle.reading.specs.Cursors.{AreCursors}
use Rattle.cli_cells.specs.declared.until_fault.MetRows.TheInside.{Inside}

-- the number of rows of a table that come before a broken row; all of them if no row is broken
abbrev pub rows_before : Source → Option BrokenRow → TableId → ℕ
rows_before source None table = rows_in source table
rows_before source (Some at) table =
    if nat_lt (table_index_of table) at.table_index then rows_in source table else (if table_index_of table == at.table_index then at.row - 1 else 0)

-- the numbers and heaps of the rows, and the first row that breaks a rule for cells
pub record Met : Type 0 where
  pub here : SourceAt
  pub broken : Option BrokenRow

abbrev pub met_seen : Inside → Met
met_seen rows = record { here = rows.source.now; broken = rows.broken }

-- the first broken row, the known starts and the cursors are those of the source
pub record AreMet (rows : Inside) : Type 0 where
  pub broken : IsFirstBroken rows.source.now rows.broken
  pub known : AreKnown rows.source.now.source rows.known
  pub cursors : AreCursors rows.source.now.source rows.cursors
