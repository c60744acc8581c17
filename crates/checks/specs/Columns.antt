-- The results of a pass over a column.
use Rattle.std.specs.Prelude.{ℕ, ◌≤◌, ◌<◌, Bool, List, Result}
use Rattle.packed.specs.declared.code.FaultCode.{FaultCode}
use Rattle.packed.specs.declared.fault.Fault.{Fault}
use Rattle.packed.specs.Rule.{Rule, AllHold, Reports}
use Rattle.table_schema.specs.declared.table.TableId.{TableId}
use Rattle.table_schema.specs.declared.column.ColumnKind.{ColumnKind}
use Rattle.metadata.specs.Source.{Source, number_of}
use Rattle.metadata.specs.SourceAt.{SourceAt}
use Rattle.metadata.specs.Rules.{rules_of_number, rules_of_cell, rules_of_encoding, rules_of_signature}
use Rattle.reading.specs.Codes.{code_at}

-- each number of the column in the rows before an end has a property
pub record AllPass (P : ℕ → Type 0) (source : Source) (table : TableId) (column end : ℕ) : Type 0 where
  pub each : (row : ℕ) → 1 ≤ row → row < end → P (number_of source table row column)

-- the rules for a column hold in the rows before an end; they are given by row and column
pub record ColumnMeets (rules : ℕ → ℕ → List (Rule Fault)) (end column : ℕ) : Type 0 where
  pub each : (row : ℕ) → 1 ≤ row → row < end → AllHold (rules row column)

-- the numbers of the column in the rows before an end stand for cells
abbrev pub ColumnStands : SourceAt → TableId → ℕ → ℕ → Type 0
ColumnStands here table end column = ColumnMeets (rules_of_cell here table) end column

-- if the column is of signatures, its blobs in the rows before an end encode signatures
abbrev pub ColumnEncodes : SourceAt → TableId → ℕ → ℕ → Type 0
ColumnEncodes here table end column = ColumnMeets (rules_of_signature here table) end column

-- the result of a check of a number in a column of a kind, whatever its offset
abbrev pub IsChecked : Source → ColumnKind → Bool → ℕ → Result (Unit {0}) FaultCode → Type 0
IsChecked source kind nullable number result = (offset : ℕ) → Reports (rules_of_number source kind nullable number offset) (code_at offset result)

-- the same for the signature that its blob encodes
abbrev pub IsEncoded : Source → ColumnKind → ℕ → Result (Unit {0}) FaultCode → Type 0
IsEncoded source kind number result = (offset : ℕ) → Reports (rules_of_encoding source kind number offset) (code_at offset result)

-- its blob does not encode a signature whose type indexes have rows
abbrev pub IsNotEncoded : Source → ColumnKind → ℕ → Type 0
IsNotEncoded source kind number = (offset : ℕ) → ¬ AllHold (rules_of_encoding source kind number offset)
