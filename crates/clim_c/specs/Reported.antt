-- The cell that a C caller receives (II.22).
use Rattle.std.specs.Prelude.{◌≡◌, ◌≤◌, ◌<◌, ◌+◌, ◌-◌, ℕ, List, [], replicate, Some, None, length, slice_index_or}
use Rattle.std.specs.List.{SameFrom}
use Rattle.table_schema.specs.declared.table.TableId.{TableId}
use Rattle.table_schema.specs.Tables.{table_number}
use Rattle.table_schema.specs.declared.column.ColumnKind.{ColumnKind}
use Rattle.table_schema.specs.Columns.{column_at}
use Rattle.table_schema.specs.CellColumns.{cell_count, column_of}
use Rattle.metadata.specs.Metadata.{Metadata, cell_in}
use Rattle.metadata.specs.Model.{IsModel}
use Rattle.metadata.specs.Source.{number_of}
use Rattle.metadata.specs.SourceAt.{source_of}
use Rattle.reading.specs.declared.cell_ref.CellRef.{CellRef}
use Rattle.reading.specs.declared.cell_ref.CellRef.TheVariants.{Number, Text, Bytes, Guid, Ref, Start, Sig}
use Rattle.reading.specs.Shown.{ShowsCell, ShowsBlob}
use Rattle.c_values.specs.declared.cell.ClimCell.{ClimCell}
use Rattle.c_values.specs.Cells.{HasFields}
use Rattle.opening.specs.Views.{row_count}

-- the GUID field of a cell that is not a GUID
abbrev pub no_guid : List ℕ
no_guid = replicate 16 0

-- the cell for C encodes the value: its kind, and the fields that belong to the kind; the others are 0 or no bytes
abbrev pub Reports : ClimCell → CellRef → Type 0
Reports reported (Number number) = HasFields reported 1 [] number 0 no_guid
Reports reported (Text text) = HasFields reported 2 text.now 0 0 no_guid
Reports reported (Bytes blob) = HasFields reported 3 blob.now 0 0 no_guid
Reports reported (Guid None) = HasFields reported 4 [] 0 0 no_guid
Reports reported (Guid (Some guid)) = HasFields reported 5 [] 0 0 guid
Reports reported (Ref None) = HasFields reported 6 [] 0 0 no_guid
Reports reported (Ref (Some token)) = HasFields reported 7 [] token.row (table_number token.table) no_guid
Reports reported (Start start) = HasFields reported 8 [] start 0 no_guid
Reports reported (Sig blob) = HasFields reported 9 blob.now 0 0 no_guid

-- the cell for C is that of the root's model, and a signature is the blob at its heap offset
abbrev pub ReportsCell : List ℕ → Metadata → TableId → ℕ → ℕ → ClimCell → Type 0
ReportsCell root model table row column reported =
    (seen : CellRef)
    × Reports reported seen
    × ShowsCell table column seen (cell_in model table row column)
    × ShowsBlob (source_of root) (number_of (source_of root) table row (column_of table column)) seen

-- the kind is that of the cells of the column
abbrev pub IsKind : TableId → ℕ → ColumnKind → Type 0
IsKind table column kind = kind ≡ (column_at table (column_of table column)).kind

-- the table has the column, and at least `count` rows from the first on; there are at least `count` elements, and a table
-- has at most 2^24 - 1 rows
abbrev pub AreThere : List ℕ → TableId → ℕ → ℕ → ℕ → List ClimCell → Type 0
AreThere root table first column count cells =
    (1 ≤ first)
    × (count ≤ row_count root table + 1 - first)
    × (row_count root table ≤ 0xFFFFFF)
    × (column < cell_count table)
    × (count ≤ length cells)

-- the first `count` elements are the cells of the column from a row on; the others are as before
abbrev pub AreReported : List ℕ → TableId → ℕ → ℕ → ℕ → List ClimCell → List ClimCell → Type 0
AreReported root table first column count before after =
    ((model : Metadata) → IsModel root model → (k : ℕ) (d : ClimCell) → k < count
    → ReportsCell root model table (first + k) column (slice_index_or after k d))
    × SameFrom before after count
