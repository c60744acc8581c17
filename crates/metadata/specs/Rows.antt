-- The rows of cells that a root's numbers represent (ECMA-335 II.22).
use Rattle.std.specs.Prelude.{ℕ, zero, suc, ◌+◌, List, [], ◌∷◌, slice_index_or}
use Rattle.table_schema.specs.declared.table.TableId.{TableId}
use Rattle.table_schema.specs.declared.table.TableId.TheVariants.{Module}
use Rattle.table_schema.specs.Tables.{tables}
use Rattle.table_schema.specs.Columns.{column_at}
use Rattle.table_schema.specs.CellColumns.{cell_count, column_of}
use Rattle.metadata.specs.Cell.{Cell}
use Rattle.metadata.specs.Source.{Source, rows_in, number_of}
use Rattle.metadata.specs.Starts.{start_of}
use Rattle.metadata.specs.Stands.{StandsFor}

-- a list of n items: the first one satisfies P at i, the next one P at i + 1, and so on
abbrev pub AreFrom : {X : Type 0} → (ℕ → X → Type 0) → ℕ → ℕ → List X → Type 0
AreFrom P i zero [] = Unit {0}
AreFrom P i zero (x ∷ xs) = ⊥
AreFrom P i (suc n) [] = ⊥
AreFrom P i (suc n) (x ∷ xs) = P i x × AreFrom P (i + 1) n xs

-- the cell of a column, in a row counted from 1
abbrev pub StandsIn : Source → TableId → ℕ → ℕ → Cell → Type 0
StandsIn source table row column cell =
    StandsFor source (column_at table column).kind (column_at table column).nullable (start_of source table row column) (number_of source table row column) cell

-- a cell of a row, by its index in the row
abbrev pub IsCell : Source → TableId → ℕ → ℕ → Cell → Type 0
IsCell source table row cell_index cell = StandsIn source table row (column_of table cell_index) cell

unfoldable pub IsRow : Source → TableId → ℕ → List Cell → Type 0
IsRow source table row cells = AreFrom (IsCell source table row) 0 (cell_count table) cells

unfoldable pub IsTable : Source → TableId → List (List Cell) → Type 0
IsTable source table rows = AreFrom (IsRow source table) 1 (rows_in source table) rows

-- the table with a table index
abbrev pub table_at : ℕ → TableId
table_at table_index = slice_index_or tables table_index Module

unfoldable pub IsTableAt : Source → ℕ → List (List Cell) → Type 0
IsTableAt source table_index rows = IsTable source (table_at table_index) rows

-- the rows of all tables
abbrev pub AreTables : Source → List (List (List Cell)) → Type 0
AreTables source all = AreFrom (IsTableAt source) 0 38 all
