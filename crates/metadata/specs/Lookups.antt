-- The results of lookups in a model (ECMA-335 II.22).
use Rattle.std.specs.Prelude.{◌≡◌, ℕ, ◌+◌, ◌<◌, ◌≤◌, List, Some}
use Rattle.table_schema.specs.declared.table.TableId.{TableId}
use Rattle.table_schema.specs.declared.table.TableId.TheVariants.{TypeDef}
use Rattle.table_schema.specs.declared.token.Token.{Token}
use Rattle.table_schema.specs.Columns.{key_of}
use Rattle.metadata.specs.Cell.{Text, Ref, Start}
use Rattle.metadata.specs.Metadata.{Metadata, count_in, cell_in}
use Rattle.table_schema.specs.CellColumns.{cell_count, column_of}

-- the row of a table exists
abbrev pub HasRow : Metadata → TableId → ℕ → Type 0
HasRow model table row = (1 ≤ row) × (row ≤ count_in model table)

-- The run of an owner, by its cell in the list column: from its start up to but not including the next owner's start.
-- The run of the last owner ends with the last member.
pub record IsRun (model : Metadata) (owner : TableId) (cell_index : ℕ) (member : TableId) (row first past : ℕ) : Type 0 where
  pub start : cell_in model owner row cell_index ≡ Start first
  pub next : row < count_in model owner → cell_in model owner (row + 1) cell_index ≡ Start past
  pub last : row ≡ count_in model owner → past ≡ count_in model member + 1

-- a type has these names (II.22.37)
abbrev pub HasNames : Metadata → List ℕ → List ℕ → ℕ → Type 0
HasNames model namespace name row = (cell_in model TypeDef row 1 ≡ Text name) × (cell_in model TypeDef row 2 ≡ Text namespace)

-- the first row of a type with these names
pub record IsFirstType (model : Metadata) (namespace name : List ℕ) (row : ℕ) : Type 0 where
  pub there : HasRow model TypeDef row
  pub names : HasNames model namespace name row
  pub first : (earlier : ℕ) → 1 ≤ earlier → earlier < row → ¬ HasNames model namespace name earlier

-- the cell of a table's key column
pub record IsKeyCell (table : TableId) (cell_index : ℕ) : Type 0 where
  pub within : cell_index < cell_count table
  pub key : key_of table ≡ Some (column_of table cell_index)

-- the key of a row is a token
abbrev pub HasKey : Metadata → TableId → Token → ℕ → Type 0
HasKey model table token row = (cell_index : ℕ) × IsKeyCell table cell_index × (cell_in model table row cell_index ≡ Ref (Some token))
