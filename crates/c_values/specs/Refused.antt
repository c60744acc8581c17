-- Why no root is made of what a C caller gives (ECMA-335 II.22 and II.24.2).
use Rattle.std.specs.Prelude.{◌≡◌, ◌≢◌, ◌⊎◌, ⊤, ℕ, ◌+◌, ◌-◌, ◌^◌, ◌<◌, min, nat_eq, List, [], ◌∷◌, ◌++◌, length, filter, IsUtf8}
use Rattle.packed.specs.Codes.{number_of_code}
use Rattle.packed.specs.Rule.{Rule, FirstBroken}
use Rattle.packed.specs.declared.code.FaultCode.{FaultCode}
use Rattle.packed.specs.declared.code.FaultCode.TheVariants.{Version, BadCell, BadSignature}
use Rattle.table_schema.specs.declared.table.TableId.{TableId}
use Rattle.table_schema.specs.Tables.{table_number}
use Rattle.metadata.specs.declared.refusal.Refusal.{Refusal}
use Rattle.metadata.specs.Cell.{Cell}
use Rattle.metadata.specs.Metadata.{Metadata}
use Rattle.metadata.specs.Refusals.{refuse, refusals_of}
use Rattle.metadata.specs.Valid.{IsValid}
use Rattle.root_writer.specs.Canonical.{canonical}
use Rattle.writer.specs.declared.error.WriteError.{WriteError}
use Rattle.writer.specs.declared.error.WriteError.TheVariants as write
use Rattle.c_values.specs.declared.cell.ClimCell.{ClimCell}
use Rattle.c_values.specs.declared.row.ClimRow.{ClimRow}
use Rattle.c_values.specs.declared.no_root.NoRoot.{NoRoot}
use Rattle.c_values.specs.declared.refusal.ClimRefusal.{ClimRefusal}
use Rattle.c_values.specs.declared.no_root.NoRoot.TheVariants.{Refused, TooLong, Memory}
use Rattle.c_values.specs.Cells.{AreCells, IsCell, IsFormed}
use Rattle.c_values.specs.Given.{AreRows, IsGiven, TableRow}

-- the refusal with this code at this cell
abbrev pub refusal_at : FaultCode → ℕ → ℕ → ℕ → Refusal
refusal_at code table row column = record { code = number_of_code code; table = table; row = row; column = column }

-- the rules for a cell for C, in order: it has a kind and its fields are in order; a signature is encoded
abbrev pub rules_of_cell : TableId → ℕ → ℕ → ClimCell → List (Rule Refusal)
rules_of_cell table row column given =
    refuse (IsFormed table column given) BadCell (table_number table) row column
    ∷ refuse ((cell : Cell) × IsCell table column given cell) BadSignature (table_number table) row column
    ∷ []

-- the refusal of the first cell that cannot be read
pub record IsFirstBadCell (table : TableId) (row : ℕ) (given : List ClimCell) (refusal : Refusal) : Type 0 where
  pub before : List ClimCell
  pub bad : ClimCell
  pub others : List ClimCell
  pub split : given ≡ before ++ bad ∷ others
  pub read : (cells : List Cell) × AreCells table 0 before cells
  pub broken : FirstBroken (rules_of_cell table row (length before) bad) refusal

-- the refusal of a row that cannot be read: its number is no table, or else the refusal of its first bad cell
abbrev pub IsOfBadRow : ℕ → ClimRow → Refusal → Type 0
IsOfBadRow row given refusal =
    (((table : TableId) → table_number table ≢ given.table) × (refusal ≡ refusal_at BadCell given.table 0 0))
    ⊎ ((table : TableId) × (table_number table ≡ given.table) × IsFirstBadCell table row given.cells.now refusal)

-- the number of a row after others of its table, from 1; at most 2^32 - 1
abbrev pub row_after : ℕ → ℕ
row_after count = min (count + 1) (2 ^ 32 - 1)

-- the number of rows for C that have the number of a table
abbrev pub count_given : ℕ → List ClimRow → ℕ
count_given number given = length (filter (λ row. nat_eq row.table number) given)

-- the refusal of the first row that cannot be read
pub record IsFirstBadRow (given : List ClimRow) (refusal : Refusal) : Type 0 where
  pub before : List ClimRow
  pub bad : ClimRow
  pub others : List ClimRow
  pub split : given ≡ before ++ bad ∷ others
  pub read : (rows : List TableRow) × AreRows before rows
  pub broken : IsOfBadRow (row_after (count_given bad.table before)) bad refusal

-- the first refusal of what is given: of the version, of the first row that cannot be read, or of the metadata
abbrev pub IsRefused : List ℕ → List ℕ → List ClimRow → Refusal → Type 0
IsRefused version user given refusal =
    ((¬ IsUtf8 version) × (refusal ≡ refusal_at Version 0 0 0))
    ⊎ ((IsUtf8 version × IsFirstBadRow given refusal)
    ⊎ ((model : Metadata) × IsGiven version user given model × FirstBroken (refusals_of model) refusal))

-- valid metadata is given that has this property
abbrev pub IsGivenValid : List ℕ → List ℕ → List ClimRow → (Metadata → Type 0) → Type 0
IsGivenValid version user given property = (model : Metadata) × IsGiven version user given model × IsValid model × property model

-- a fact for each reason why there is no root; memory may run out at any time
abbrev pub MatchNoRoot : (Refusal → Type 0) → Type 0 → NoRoot → Type 0
MatchNoRoot refused too_long (Refused refusal) = refused refusal
MatchNoRoot refused too_long TooLong = too_long
MatchNoRoot refused too_long Memory = ⊤

-- there is no root: what is given is refused, or its canonical root is longer than 2^30 bytes, or memory ran out
abbrev pub IsNoRoot : List ℕ → List ℕ → List ClimRow → NoRoot → Type 0
IsNoRoot version user given =
    MatchNoRoot (IsRefused version user given) (IsGivenValid version user given (λ model. 2 ^ 30 < length (canonical model)))

-- the reason why a root that was not written is no root
abbrev pub unwritten : WriteError → NoRoot
unwritten write.TooLarge = TooLong
unwritten _ = Memory

-- the refusal with these fields
abbrev pub refusal_of : ClimRefusal → Refusal
refusal_of reported = record { code = reported.code; table = reported.table; row = reported.row; column = reported.column }
