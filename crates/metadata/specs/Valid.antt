-- The rules for a valid model, independent of a root (ECMA-335 II.22 and II.24.2).
use Rattle.std.specs.Prelude.{◌≡◌, ℕ, ◌+◌, ◌^◌, ◌%◌, ◌<◌, ◌≤◌, ⊤, Bool, true, List, length, Some, None}
use Rattle.std.specs.List.{AllByRecursion}
use Rattle.root.specs.Root.{IsVersion}
use Rattle.table_schema.specs.declared.table.TableId.{TableId}
use Rattle.table_schema.specs.declared.token.Token.{Token}
use Rattle.table_schema.specs.declared.column.ColumnKind.{ColumnKind}
use Rattle.table_schema.specs.declared.column.ColumnKind.TheVariants as kind
use Rattle.table_schema.specs.Columns.{column_at}
use Rattle.table_schema.specs.CellColumns.{cell_count, column_of}
use Rattle.sig_grammar.specs.Encodes.{tokens}
use Rattle.metadata.specs.Cell.{Cell, Ref, Start, Sig, start_in}
use Rattle.metadata.specs.Kinds.{IsOfKind, IsStorable, IsHeld}
use Rattle.metadata.specs.Metadata.{Metadata, row_of, count_in, cell_in}
use Rattle.metadata.specs.Lookups.{HasRow}
use Rattle.metadata.specs.MemberLists.{owner_of, cell_of}
use Rattle.metadata.specs.Links.{Links, AreLinked}

-- ---- cells

-- the row that a token refers to exists
abbrev pub Names : Metadata → Token → Type 0
Names model token = HasRow model token.table token.row

-- a reference is to an existing row, or is null and the column allows null
abbrev pub MayRefer : Metadata → Bool → Cell → Type 0
MayRefer model nullable (Ref None) = nullable ≡ true
MayRefer model nullable (Ref (Some token)) = Names model token
MayRefer model nullable _ = ⊤

-- a start is at most one past the last member
abbrev pub IsWithinMembers : Metadata → ColumnKind → Cell → Type 0
IsWithinMembers model (kind.List member) (Start start) = start ≤ count_in model member + 1
IsWithinMembers model _ _ = ⊤

-- each type index in a signature refers to an existing row (II.23.2.8)
abbrev pub NamesTypes : Metadata → Cell → Type 0
NamesTypes model (Sig signature) = AllByRecursion (Names model) (tokens signature)
NamesTypes model _ = ⊤

-- a column of a kind can hold the cell
pub record IsValidCell (model : Metadata) (kind : ColumnKind) (nullable : Bool) (cell : Cell) : Type 0 where
  pub of_kind : IsOfKind kind cell
  pub storable : IsStorable cell
  pub refers : MayRefer model nullable cell
  pub within : IsWithinMembers model kind cell
  pub held : IsHeld kind cell
  pub types : NamesTypes model cell

-- the kind of a cell's column, by the index of the cell in its row, and whether the column allows null
abbrev pub kind_at : TableId → ℕ → ColumnKind
kind_at table cell_index = (column_at table (column_of table cell_index)).kind

abbrev pub nullable_at : TableId → ℕ → Bool
nullable_at table cell_index = (column_at table (column_of table cell_index)).nullable

-- the cell is valid at an index of a row
abbrev pub IsValidAt : Metadata → TableId → ℕ → Cell → Type 0
IsValidAt model table cell_index cell = IsValidCell model (kind_at table cell_index) (nullable_at table cell_index) cell

-- ---- the links between rows

-- the row of a reference; null is 0
abbrev pub row_in : Cell → ℕ
row_in (Ref (Some token)) = token.row
row_in _ = 0

-- the links of a model: in its cells (`Links.antt`)
abbrev pub links_of : Metadata → Links
links_of model = record {
  count = count_in model;
  start = λ list row. start_in (cell_in model (owner_of list) row (cell_of list));
  reference = λ table row cell_index. row_in (cell_in model table row cell_index);
}

-- ---- the whole

-- the bytes of `#US`: their number is a multiple of four, and at most 2^30
pub record IsUser (user : List ℕ) : Type 0 where
  pub zero_padded : length user % 4 ≡ 0
  pub small : length user ≤ 2 ^ 30

-- A valid model: a version; user bytes; 38 tables with at most 0xFFFFFF rows each; each row has the cells of its
-- table's columns; members have owners (II.22.12, II.22.26, II.22.35, II.22.37); nested types come after the types that
-- they are nested in. Keys may have any order.
pub record IsValid (model : Metadata) : Type 0 where
  pub version : IsVersion model.version
  pub user : IsUser model.user
  pub tables : length model.tables ≡ 38
  pub few : (table : TableId) → count_in model table ≤ 0xFFFFFF
  pub long : (table : TableId) (row : ℕ) → HasRow model table row → length (row_of model table row) ≡ cell_count table
  pub cells : (table : TableId) (row cell_index : ℕ) → HasRow model table row → cell_index < cell_count table
      → IsValidAt model table cell_index (cell_in model table row cell_index)
  pub linked : AreLinked (links_of model)
