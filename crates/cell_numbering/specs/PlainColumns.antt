-- Columns whose numbers are those in the canonical root, too (ECMA-335 II.24.2.6).
use Rattle.std.specs.Prelude.{◌≡◌, ℕ, ◌^◌, ◌≤◌, ◌<◌, nat_lt, if◌then◌else◌, List, Option, None, IfSome, length, slice_index_or}
use Rattle.table_schema.specs.declared.table.TableId.{TableId}
use Rattle.table_schema.specs.declared.column.ColumnKind.{ColumnKind}
use Rattle.table_schema.specs.declared.column.ColumnKind.TheVariants as kind
use Rattle.table_schema.specs.CellColumns.{cell_count}
use Rattle.table_schema.specs.CodedIndexes.{tag_bits}
use Rattle.rows.specs.Columns.{ColumnBytes, number_in_row}
use Rattle.metadata.specs.Cell.{Cell}
use Rattle.metadata.specs.Metadata.{Metadata, count_in, cell_in}
use Rattle.metadata.specs.Valid.{kind_at}
use Rattle.root_writer.specs.Numbers.{cell_number}
use Rattle.cell_numbering.specs.HeapUses.{IsInNoHeap}
use Rattle.cell_numbering.specs.NumbersSoFar.{no_pools}
use Rattle.cell_numbering.specs.declared.plain_columns.PlainColumn.TheInside.{Inside}

-- the numbers in a column, and the least of them that is not null
pub record Plain : Type 0 where
  pub column : ColumnBytes
  pub least : ℕ

abbrev pub plain_of : Inside → Plain
plain_of plain = record { column = plain.column; least = plain.least }

-- a number that is less than the least one is null, which is 0
abbrev pub without_null : ℕ → ℕ → ℕ
without_null least number = if nat_lt number least then 0 else number

-- the number of a row's cell
abbrev pub number_in : Plain → ℕ → ℕ
number_in plain row = without_null plain.least (number_in_row plain.column row)

-- in a column of a kind that is in no heap and no list, this is the least number that is not null: a coded index with
-- row 0 is null, whatever its tag
abbrev pub IsLeast : ColumnKind → ℕ → Type 0
IsLeast kind.U8 least = least ≡ 0
IsLeast kind.U16 least = least ≡ 0
IsLeast kind.U32 least = least ≡ 0
IsLeast (kind.Row table) least = least ≡ 0
IsLeast (kind.Coded coded) least = least ≡ 2 ^ tag_bits coded
IsLeast _ least = ⊥

-- the number is that of the cell, which is in no heap
pub record IsPlainNumber (column : ColumnKind) (number : ℕ) (cell : Cell) : Type 0 where
  pub none : IsInNoHeap cell
  pub number_is : number ≡ cell_number no_pools column cell

-- the numbers are those of the model's cells in this column
abbrev pub IsPlainIn : Metadata → TableId → ℕ → Plain → Type 0
IsPlainIn model table cell_index plain =
    (row : ℕ) → 1 ≤ row → row ≤ count_in model table → IsPlainNumber (kind_at table cell_index) (number_in plain row) (cell_in model table row cell_index)

-- for each cell of a table's rows no numbers, or the numbers of all rows, which are those of each model that is shown
pub record ArePlain (count : ℕ) (shows : Metadata → Type 0) (table : TableId) (columns : List (Option Plain)) : Type 0 where
  pub len : length columns ≡ cell_count table
  pub counts : (k : ℕ) → k < cell_count table → IfSome (slice_index_or columns k None) (λ plain. plain.column.count ≡ count)
  pub plain : (model : Metadata) → shows model → (k : ℕ) → k < cell_count table → IfSome (slice_index_or columns k None) (IsPlainIn model table k)
