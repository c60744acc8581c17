-- The columns that arguments name (ECMA-335 II.22).
use Rattle.std.specs.Prelude.{◌≡◌, ◌==◌, ◌<◌, ℕ, true, List, Some, length}
use Rattle.std.specs.List.{All, Any, after_first, before_first, position_or_len}
use Rattle.std.specs.Borrow.{Bor}
use Rattle.std.specs.Str.{str_to_ascii_lowercase}
use Rattle.table_schema.specs.declared.table.TableId.{TableId}
use Rattle.table_schema.specs.CellColumns.{cell_count}
use Rattle.comparison.specs.Ignored.{is_ignored}
use Rattle.comparison.specs.declared.ignored.IgnoredColumns.{IgnoredColumns}
use Rattle.cli_lines.specs.Names.{column_name}
use Rattle.cli_names.specs.Names.{table_named}

-- the argument names this column: before its first dot, whose ASCII code is 46, is the name of the table, and after it the name of
-- a column that has cells, in any case
abbrev pub NamesColumn : List ℕ → TableId → ℕ → Type 0
NamesColumn word table cell_index =
    (cell_index < cell_count table) × (position_or_len (λ byte. byte == 46) word < length word)
    × (table_named (before_first (λ byte. byte == 46) word) ≡ Some table)
    × (str_to_ascii_lowercase (after_first (λ byte. byte == 46) word) ≡ str_to_ascii_lowercase (column_name table cell_index))

-- the argument names a column
abbrev pub NamesSome : Bor (List ℕ) → Type 0
NamesSome word = (table : TableId) × (cell_index : ℕ) × NamesColumn word.now table cell_index

-- the argument names a column that is ignored
abbrev pub NamesIgnored : IgnoredColumns → Bor (List ℕ) → Type 0
NamesIgnored ignored word = (table : TableId) × (cell_index : ℕ) × NamesColumn word.now table cell_index × (is_ignored ignored table cell_index ≡ true)

-- the ignored columns are those that the arguments name
pub record AreNamed (words : List (Bor (List ℕ))) (ignored : IgnoredColumns) : Type 0 where
  pub all : All (NamesIgnored ignored) words
  pub only : (table : TableId) (cell_index : ℕ) → cell_index < cell_count table → is_ignored ignored table cell_index ≡ true
      → Any (λ word. NamesColumn word.now table cell_index) words
