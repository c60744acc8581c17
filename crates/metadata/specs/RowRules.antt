-- The order of rows in a root (ECMA-335 II.22).
use Rattle.std.specs.Prelude.{◌≡◌, ℕ, ◌-◌, ◌<◌, ◌≤◌, Bool, true, Option, Some, None}
use Rattle.table_schema.specs.declared.table.TableId.{TableId}
use Rattle.table_schema.specs.Columns.{key_of}
use Rattle.schema.specs.Header.{has_bit}
use Rattle.metadata.specs.Source.{Source, rows_in, number_of}
use Rattle.metadata.specs.Rows.{table_at}

-- the numbers of a column never decrease
abbrev pub IsInOrder : Source → TableId → ℕ → Type 0
IsInOrder source table column =
    (row : ℕ) → 2 ≤ row → row ≤ rows_in source table → number_of source table (row - 1) column ≤ number_of source table row column

-- Sorted sets the bit of a table (II.24.2.6)
abbrev pub is_said_sorted : Source → TableId → Bool
is_said_sorted source table = has_bit source.sizes.sorted table

-- a table with a key is sorted by it, if Sorted claims so
abbrev pub IsByKey : Source → TableId → Option ℕ → Type 0
IsByKey source table None = Unit {0}
IsByKey source table (Some key) = is_said_sorted source table ≡ true → IsInOrder source table key

-- this for all tables (II.22 and II.24.2.6)
abbrev pub AreByKey : Source → Type 0
AreByKey source = (table_index : ℕ) → table_index < 38 → IsByKey source (table_at table_index) (key_of (table_at table_index))
