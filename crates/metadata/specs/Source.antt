-- What the cells of a root are read from: the numbers of its tables, and its heaps (ECMA-335 II.24.2.3 to II.24.2.6).
use Rattle.std.specs.Prelude.{ℕ, ◌≤◌, List}
use Rattle.table_schema.specs.declared.table.TableId.{TableId}
use Rattle.table_schema.specs.declared.token.Token.{Token}
use Rattle.schema.specs.Sizes.{Sizes, count_of}
use Rattle.schema.specs.LaidOut.{number_in}

-- the sizes of the table stream; its numbers, by table, row and column; and the heaps of texts, blobs and GUIDs
pub record Source : Type 0 where
  pub sizes : Sizes
  pub numbers : List (List (List ℕ))
  pub texts : List ℕ
  pub blobs : List ℕ
  pub guids : List ℕ

-- the number of rows of a table
abbrev pub rows_in : Source → TableId → ℕ
rows_in source table = count_of source.sizes table

-- the number in a column, in a row counted from 1
unfoldable pub number_of : Source → TableId → ℕ → ℕ → ℕ
number_of source table row column = number_in source.numbers table row column

-- the row exists
abbrev pub IsThere : Source → Token → Type 0
IsThere source token = (1 ≤ token.row) × (token.row ≤ rows_in source token.table)
