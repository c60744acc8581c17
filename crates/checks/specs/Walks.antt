-- What a walk down a column of signatures walks.
use Rattle.std.specs.Prelude.{ℕ, zero, suc, ◌+◌, ◌≤◌, ◌<◌, length, if◌then◌else◌}
use Rattle.table_schema.specs.declared.table.TableId.{TableId}
use Rattle.table_schema.specs.declared.column.ColumnKind.{ColumnKind}
use Rattle.table_schema.specs.declared.column.ColumnKind.TheVariants as kind
use Rattle.table_schema.specs.Columns.{columns_of, column_at}
use Rattle.metadata.specs.Source.{Source, rows_in, number_of}
use Rattle.metadata.specs.Rows.{table_at}
use Rattle.checks.specs.declared.budget.Budget.{Budget}
use Rattle.checks.specs.Budgets.{Takes}
use Rattle.checks.specs.Passed.{Slots, no_slots, is_kept, keep}
use Rattle.checks.specs.Signatures.{blob_length, sum_below}

-- which numbers are kept, and how many bytes of blobs were walked
pub record Walk : Type 0 where
  pub slots : Slots
  pub bytes : ℕ

-- the walk after one more number: it walks the blob and keeps the number, if that is not kept
abbrev pub walk_one : (ℕ → ℕ) → Walk → ℕ → Walk
walk_one long walk number =
    if is_kept walk.slots number then walk else record { slots = keep walk.slots number (long number); bytes = walk.bytes + long number }

-- the walk over the first numbers of a column, by the size of the heap and the lengths of the blobs of numbers
unfoldable pub walk_over : ℕ → (ℕ → ℕ) → (ℕ → ℕ) → ℕ → Walk
walk_over heap long number zero = record { slots = no_slots heap; bytes = 0 }
walk_over heap long number (suc before) = walk_one long (walk_over heap long number before) (number before)

-- the number of a column in the row after this number of rows
abbrev pub number_after : Source → TableId → ℕ → ℕ → ℕ
number_after source table column before = number_of source table (before + 1) column

-- how many bytes of blobs are walked in the first rows of a column
abbrev pub walked_bytes : Source → TableId → ℕ → ℕ → ℕ
walked_bytes source table column rows =
    (walk_over (length source.blobs) (blob_length source.blobs) (number_after source table column) rows).bytes

-- the same in the first rows of a column of a kind: none if the column is not of signatures
abbrev pub walked_in : Source → TableId → ℕ → ColumnKind → ℕ → ℕ
walked_in source table column (kind.Signature encoded) rows = walked_bytes source table column rows
walked_in source table column _ rows = 0

-- in all rows of a column; of a table, over its columns; of all tables
unfoldable pub column_walked : Source → TableId → ℕ → ℕ
column_walked source table column = walked_in source table column (column_at table column).kind (rows_in source table)

unfoldable pub table_walked : Source → TableId → ℕ
table_walked source table = sum_below (column_walked source table) (length (columns_of table))

unfoldable pub table_walked_at : Source → ℕ → ℕ
table_walked_at source table_index = table_walked source (table_at table_index)

unfoldable pub walked_signature_bytes : Source → ℕ
walked_signature_bytes source = sum_below (table_walked_at source) 38

-- a walk over the rows before a limit that stops at a row took from a budget what the blobs of the rows before that one
-- took, and the blob of this row or not
abbrev pub StopsAt : Source → TableId → ℕ → ℕ → Budget → Budget → ℕ → Type 0
StopsAt source table column limit before after row =
    (rows : ℕ) × (rows ≤ row) × (row ≤ rows + 1) × (rows < limit) × Takes before after (walked_bytes source table column rows)
