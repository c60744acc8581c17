-- The columns whose cells a comparison leaves out.
use Rattle.std.specs.Prelude.{◌≡◌, ◌≢◌, ◌<◌, ◌⊎◌, ℕ, ◌+◌, ◌*◌, Bool, false, replicate, slice_index_or}
use Rattle.table_schema.specs.declared.table.TableId.{TableId}
use Rattle.table_schema.specs.CellColumns.{cell_count}
use Rattle.table_schema.specs.Tables.{table_number}
use Rattle.comparison.specs.declared.ignored.IgnoredColumns.{IgnoredColumns}

-- whether a column is left out: its mark, of nine for each table, by the table's number; a table has at most nine columns
unfoldable pub is_ignored : IgnoredColumns → TableId → ℕ → Bool
is_ignored ignored table cell_index = slice_index_or ignored.marks (9 * table_number table + cell_index) false

-- no column is left out
unfoldable pub no_columns : IgnoredColumns
no_columns = record { marks = replicate 405 false }

-- each column but this one is left out if and only if it was before
abbrev pub AreOthersSame : IgnoredColumns → IgnoredColumns → TableId → ℕ → Type 0
AreOthersSame before after table cell_index =
    (other : TableId) (index : ℕ) → index < cell_count other → (other ≢ table) ⊎ (index ≢ cell_index) → is_ignored after other index ≡ is_ignored before other index
