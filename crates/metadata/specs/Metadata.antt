-- The metadata of a root: its content, independent of its encoding (ECMA-335 II.22 and II.24.2).
use Rattle.std.specs.Prelude.{ℕ, ◌-◌, List, [], length, slice_index_or}
use Rattle.table_schema.specs.declared.table.TableId.{TableId}
use Rattle.table_schema.specs.Tables.{table_index_of}
use Rattle.metadata.specs.Cell.{Cell, Number}

-- the version; the bytes of `#US`, padded to a multiple of four; and the rows of each table, in order of table number
pub record Metadata : Type 0 where
  pub version : List ℕ
  pub user : List ℕ
  pub tables : List (List (List Cell))

-- the rows of a table
abbrev pub rows_of : Metadata → TableId → List (List Cell)
rows_of model table = slice_index_or model.tables (table_index_of table) []

-- the number of rows of a table
abbrev pub count_in : Metadata → TableId → ℕ
count_in model table = length (rows_of model table)

-- a row, counted from 1
abbrev pub row_of : Metadata → TableId → ℕ → List Cell
row_of model table row = slice_index_or (rows_of model table) (row - 1) []

-- a cell, by its row, counted from 1, and its index in the row, counted from 0
abbrev pub cell_in : Metadata → TableId → ℕ → ℕ → Cell
cell_in model table row column = slice_index_or (row_of model table row) column (Number 0)
