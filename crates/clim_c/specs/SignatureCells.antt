-- The cells that have a signature (II.22 and II.23.2).
use Rattle.std.specs.Prelude.{◌≡◌, ℕ, ◌≤◌, ◌<◌, List}
use Rattle.table_schema.specs.declared.table.TableId.{TableId}
use Rattle.table_schema.specs.declared.column.SigKind.{SigKind}
use Rattle.table_schema.specs.declared.column.ColumnKind.TheVariants.{Signature}
use Rattle.table_schema.specs.Columns.{column_at}
use Rattle.table_schema.specs.CellColumns.{cell_count, column_of}
use Rattle.opening.specs.Views.{row_count}

-- the root has this cell, and its column has signatures of this kind
abbrev pub HasSignature : List ℕ → TableId → ℕ → ℕ → SigKind → Type 0
HasSignature root table row column kind =
    (1 ≤ row) × (row ≤ row_count root table) × (column < cell_count table) × ((column_at table (column_of table column)).kind ≡ Signature kind)
