-- The numbers of tables as one list, by table, row and column (ECMA-335 II.24.2.6).
use Rattle.std.specs.Prelude.{ℕ, zero, suc, ◌*◌, List, [], ◌∷◌, length, take, drop}
use Rattle.table_schema.specs.declared.table.TableId.{TableId}
use Rattle.table_schema.specs.Columns.{columns_of}
use Rattle.schema.specs.Sizes.{Sizes, count_of}

-- the number of numbers in a table: columns times rows
abbrev pub cells_of : Sizes → TableId → ℕ
cells_of sizes table = length (columns_of table) * count_of sizes table

-- n rows of w columns each, from the prefix of a list
abbrev pub rows_in : ℕ → ℕ → List ℕ → List (List ℕ)
rows_in columns zero numbers = []
rows_in columns (suc count) numbers = take columns numbers ∷ rows_in columns count (drop columns numbers)

-- the rows of a table, from the prefix of a list
abbrev pub table_in : Sizes → TableId → List ℕ → List (List ℕ)
table_in sizes table numbers = rows_in (length (columns_of table)) (count_of sizes table) numbers

-- the rows of consecutive tables
abbrev pub tables_in : Sizes → List TableId → List ℕ → List (List (List ℕ))
tables_in sizes [] numbers = []
tables_in sizes (table ∷ listed) numbers =
    table_in sizes table (take (cells_of sizes table) numbers) ∷ tables_in sizes listed (drop (cells_of sizes table) numbers)
