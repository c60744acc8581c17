-- Cells whose blobs are at one index of the blob heap that they are read from (ECMA-335 II.24.2.4).
use Rattle.std.specs.Prelude.{◌≡◌, ℕ, ◌<◌, Option, Some}
use Rattle.table_schema.specs.declared.table.TableId.{TableId}
use Rattle.table_schema.specs.declared.column.ColumnKind.{ColumnKind}
use Rattle.table_schema.specs.declared.column.ColumnKind.TheVariants as kind
use Rattle.table_schema.specs.CellColumns.{cell_count}
use Rattle.metadata.specs.Cell.{Cell}
use Rattle.metadata.specs.Lookups.{HasRow}
use Rattle.metadata.specs.Metadata.{Metadata, cell_in}
use Rattle.metadata.specs.Valid.{kind_at}

-- which cell: its table, its row, and its index in the row
pub record CellId : Type 0 where
  pub table : TableId
  pub row : ℕ
  pub cell_index : ℕ

-- a model has the cell
abbrev pub HasCell : Metadata → CellId → Type 0
HasCell model id = HasRow model id.table id.row × (id.cell_index < cell_count id.table)

abbrev pub cell_by_id : Metadata → CellId → Cell
cell_by_id model id = cell_in model id.table id.row id.cell_index

abbrev pub kind_by_id : CellId → ColumnKind
kind_by_id id = kind_at id.table id.cell_index

-- a column of blobs, or of signatures
abbrev pub IsBlobKind : ColumnKind → Type 0
IsBlobKind kind.Blob = Unit {0}
IsBlobKind (kind.Signature column) = Unit {0}
IsBlobKind _ = ⊥

-- two cells in columns of one kind, of blobs or of signatures, whose blobs are at one index
pub record ShareBlob (index_of : CellId → Option ℕ) (first second : CellId) : Type 0 where
  pub blobs : IsBlobKind (kind_by_id first)
  pub kind : kind_by_id first ≡ kind_by_id second
  pub index : ℕ
  pub first_index : index_of first ≡ Some index
  pub second_index : index_of second ≡ Some index
