-- The first row that breaks a rule for cells (ECMA-335 II.22).
use Rattle.std.specs.Prelude.{ℕ, ◌-◌, ◌≤◌, ◌<◌, Option, Some, None}
use Rattle.packed.specs.Rule.{AllHold, HoldBefore}
use Rattle.table_schema.specs.declared.table.TableId.{TableId}
use Rattle.metadata.specs.Source.{Source, rows_in}
use Rattle.metadata.specs.SourceAt.{SourceAt}
use Rattle.metadata.specs.Rows.{table_at}
use Rattle.metadata.specs.Rules.{rules_of_cells, rules_of_table, rules_of_table_at, rules_of_row}
use Rattle.checks.specs.TextBytes.{rows_text_bytes, text_bytes, text_bytes_to}
use Rattle.checks.specs.declared.cell_checks.BrokenRow.{BrokenRow}

-- the row of a table breaks a rule for its cells, and the rows before it break none
pub record IsBrokenRow (here : SourceAt) (table : TableId) (row : ℕ) : Type 0 where
  pub first : 1 ≤ row
  pub last : row ≤ rows_in here.source table
  pub before : HoldBefore (rules_of_row here table) 1 row
  pub broken : ¬ AllHold (rules_of_row here table row)

-- the first such row of a table; none if each of its rows follows the rules for its cells
abbrev pub IsFirstBrokenIn : SourceAt → TableId → Option ℕ → Type 0
IsFirstBrokenIn here table None = AllHold (rules_of_table here table)
IsFirstBrokenIn here table (Some row) = IsBrokenRow here table row

-- the first such row of a table with a table index, and the tables before that one have none
pub record IsBroken (here : SourceAt) (at : BrokenRow) : Type 0 where
  pub listed : at.table_index < 38
  pub tables : HoldBefore (rules_of_table_at here) 0 at.table_index
  pub row : IsBrokenRow here (table_at at.table_index) at.row

-- the first such row of all tables; none if each row follows the rules for its cells
abbrev pub IsFirstBroken : SourceAt → Option BrokenRow → Type 0
IsFirstBroken here None = AllHold (rules_of_cells here)
IsFirstBroken here (Some at) = IsBroken here at

-- the bytes of texts that the rows before such a row count: in its table, and in all tables
abbrev pub bytes_before_in : Source → TableId → Option ℕ → ℕ
bytes_before_in source table None = rows_text_bytes source table (rows_in source table)
bytes_before_in source table (Some row) = rows_text_bytes source table (row - 1)

abbrev pub bytes_before : Source → Option BrokenRow → ℕ
bytes_before source None = text_bytes source
bytes_before source (Some at) = text_bytes_to source at.table_index (at.row - 1)
