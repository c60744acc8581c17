-- The metadata that a C caller gives, row by row (ECMA-335 II.22 and II.24.2).
use Rattle.std.specs.Prelude.{◌≡◌, ⊤, ℕ, Bool, nat_eq, List, [], ◌∷◌, length, map, filter, IsUtf8}
use Rattle.table_schema.specs.declared.table.TableId.{TableId}
use Rattle.table_schema.specs.Tables.{table_number}
use Rattle.metadata.specs.Cell.{Cell}
use Rattle.metadata.specs.Metadata.{Metadata, rows_of}
use Rattle.c_values.specs.declared.row.ClimRow.{ClimRow}
use Rattle.c_values.specs.Cells.{AreCells}

-- a row, with its table
pub record TableRow : Type 0 where
  pub table : TableId
  pub cells : List Cell

-- the row for C is this row: it has the number of its table, and its cells
pub record IsRow (given : ClimRow) (row : TableRow) : Type 0 where
  pub number : table_number row.table ≡ given.table
  pub cells : AreCells row.table 0 given.cells.now row.cells

-- the rows for C are these rows, in order
abbrev pub AreRows : List ClimRow → List TableRow → Type 0
AreRows [] [] = ⊤
AreRows (given ∷ others) (row ∷ rows) = IsRow given row × AreRows others rows
AreRows _ _ = ⊥

-- whether a row is one of a table
abbrev pub is_of : TableId → TableRow → Bool
is_of table row = nat_eq (table_number row.table) (table_number table)

-- the cells of the rows of a table, in order
abbrev pub cells_of : TableId → List TableRow → List (List Cell)
cells_of table rows = map (λ row. row.cells) (filter (is_of table) rows)

-- the metadata has this version and these user bytes, and the rows of each table are those that are given, in order
pub record IsGiven (version user : List ℕ) (given : List ClimRow) (model : Metadata) : Type 0 where
  pub utf8 : IsUtf8 version
  pub has_version : model.version ≡ version
  pub has_user : model.user ≡ user
  pub rows : List TableRow
  pub given_rows : AreRows given rows
  pub tables : length model.tables ≡ 38
  pub cells : (table : TableId) → rows_of model table ≡ cells_of table rows
