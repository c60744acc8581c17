-- What the number in a column of a root says of a cell (ECMA-335 II.22 and II.24.2.6).
use Rattle.std.specs.Prelude.{◌≡◌, ℕ, ◌^◌, ◌<◌, ◌≤◌, Option, None, Some, ⊤}
use Rattle.table_schema.specs.declared.table.TableId.{TableId}
use Rattle.table_schema.specs.declared.coded.Coded.{Coded}
use Rattle.table_schema.specs.declared.column.ColumnKind.{ColumnKind}
use Rattle.table_schema.specs.declared.column.ColumnKind.TheVariants as kind
use Rattle.table_schema.specs.CodedIndexes.{tag_bits}
use Rattle.rows.specs.Columns.{ColumnBytes, number_in_row}
use Rattle.metadata.specs.Cell.{Cell, Number, Ref}
use Rattle.metadata.specs.KeyOrder.{row_number}
use Rattle.metadata.specs.Metadata.{Metadata, cell_in}
use Rattle.metadata.specs.Valid.{kind_at, row_in}
use Rattle.metadata_source.specs.SharedBlobs.{CellId}

-- a coded index without a row is null, whatever its tag; another is the number of the row that it names
abbrev pub IsCodedNumber : Coded → ℕ → Cell → Type 0
IsCodedNumber coded number (Ref None) = number < 2 ^ tag_bits coded
IsCodedNumber coded number (Ref (Some token)) = (2 ^ tag_bits coded ≤ number) × (number ≡ row_number (kind.Coded coded) token)
IsCodedNumber coded number _ = ⊥

-- a number is the cell's own, a simple index is the row of the cell's reference, and a coded index names its row
abbrev pub IsNumberOf : ColumnKind → ℕ → Cell → Type 0
IsNumberOf kind.U8 number cell = cell ≡ Number number
IsNumberOf kind.U16 number cell = cell ≡ Number number
IsNumberOf kind.U32 number cell = cell ≡ Number number
IsNumberOf (kind.Row table) number cell = number ≡ row_in cell
IsNumberOf (kind.Coded coded) number cell = IsCodedNumber coded number cell
IsNumberOf _ number cell = ⊤

-- the numbers of a cell's column are the indexes of its cells
abbrev pub AreIndexesIn : (CellId → Option ℕ) → TableId → ℕ → ℕ → ColumnBytes → Type 0
AreIndexesIn index_of table cell_index count numbers =
    (row : ℕ) → 1 ≤ row → row ≤ count → index_of (record { table = table; row = row; cell_index = cell_index }) ≡ Some (number_in_row numbers row)

-- the numbers of a cell's column are those of the model's cells
abbrev pub AreNumbersIn : Metadata → TableId → ℕ → ℕ → ColumnBytes → Type 0
AreNumbersIn model table cell_index count numbers =
    (row : ℕ) → 1 ≤ row → row ≤ count → IsNumberOf (kind_at table cell_index) (number_in_row numbers row) (cell_in model table row cell_index)
