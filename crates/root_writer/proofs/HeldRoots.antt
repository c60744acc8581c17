-- The cells of a valid model by the kinds of their columns, in the form that the laws of writing need.
use Rattle.root_writer.proofs.Prelude.{◌≡◌, ℕ, zero, suc, ◌-◌, ◌+◌, ◌^◌, ◌<◌, ◌≤◌, ◌⊎◌, Bool, true, List, [], ◌∷◌, length, get_or, Option, Some, None, IfSome, IsUtf8, Contains, refl, subst, inl, inr, ◌∙◌, arith, AllByRecursion, All-from_get_or, recursion_from_All, HasNoNul, TableId, Token, ColumnKind, table_index_of, column_at, cell_count, column_of, tables_of, Body, Holds, IsEncodable, tokens, Cell, Number, Text, Bytes, Guid, Ref, Start, Sig, Metadata, rows_of, row_of, count_in, cell_in, table_at, AreFrom, IsValid}
use Rattle.table_schema.specs.declared.column.ColumnKind.TheVariants as kind
use Rattle.metadata.specs.Kinds.{IsTo}
use Rattle.metadata.specs.Valid as valid
use Rattle.root_writer.proofs.Lists.{are_from}
use Rattle.table_schema.proofs.TableFacts.{table_index_at}

-- ---- cells

-- the row exists; rows count from 1
abbrev pub HasRow : Metadata → Token → Type 0
HasRow model token = (1 ≤ token.row) × (token.row ≤ count_in model token.table)

-- the cell is a number below a limit
abbrev pub IsNumberBelow : ℕ → Cell → Type 0
IsNumberBelow limit cell = (number : ℕ) × (number < limit) × (cell ≡ Number number)

-- the cell refers to an existing row of a table that the column lists, or is null if the column may be null
abbrev pub MayRefer : Metadata → Bool → (TableId → Type 0) → Cell → Type 0
MayRefer model nullable IsListed cell =
    ((nullable ≡ true) × (cell ≡ Ref None)) ⊎ ((token : Token) × IsListed token.table × HasRow model token × (cell ≡ Ref (Some token)))

-- a column of this kind can have the cell; padding has no cell
abbrev pub IsValidCell : Metadata → ColumnKind → Bool → Cell → Type 0
IsValidCell model kind.U8 nullable cell = IsNumberBelow (2 ^ 8) cell
IsValidCell model kind.U16 nullable cell = IsNumberBelow (2 ^ 16) cell
IsValidCell model kind.U32 nullable cell = IsNumberBelow (2 ^ 32) cell
IsValidCell model kind.Padding nullable cell = ⊥
IsValidCell model kind.Text nullable cell = (text : List ℕ) × HasNoNul text × IsUtf8 text × (cell ≡ Text text)
IsValidCell model kind.Guid nullable cell = (guid : Option (List ℕ)) × IfSome guid (λ bytes. length bytes ≡ 16) × (cell ≡ Guid guid)
IsValidCell model kind.Blob nullable cell = (blob : List ℕ) × (length blob < 2 ^ 29) × (cell ≡ Bytes blob)
IsValidCell model (kind.Signature column) nullable cell =
    (signature : Body) × Holds column signature × IsEncodable signature × AllByRecursion (HasRow model) (tokens signature) × (cell ≡ Sig signature)
IsValidCell model (kind.Row table) nullable cell = MayRefer model nullable (λ other. other ≡ table) cell
IsValidCell model (kind.Coded coded) nullable cell = MayRefer model nullable (λ table. Contains (tables_of coded) (Some table)) cell
IsValidCell model (kind.List member) nullable cell = (start : ℕ) × (start ≤ count_in model member + 1) × (cell ≡ Start start)

-- the cell can be at this index of a row
abbrev pub IsValidAt : Metadata → TableId → ℕ → Cell → Type 0
IsValidAt model table cell_index cell =
    IsValidCell model (column_at table (column_of table cell_index)).kind (column_at table (column_of table cell_index)).nullable cell

-- the row has the number of cells of its table, each fit for its column
unfoldable pub IsValidRow : Metadata → TableId → List Cell → Type 0
IsValidRow model table cells = AreFrom (IsValidAt model table) 0 (cell_count table) cells

-- the rows of the table at this index are valid
abbrev pub AreValidRows : Metadata → ℕ → List (List Cell) → Type 0
AreValidRows model table_index rows = AllByRecursion (IsValidRow model (table_at table_index)) rows

-- ---- the cells of a valid model are valid

listed_one : (table other : TableId) → Contains (Some table ∷ []) (Some other) → other ≡ table
listed_one table other (zero, below, e) = cc
listed_one table other (suc k, below, e) = absurd (omega arith)

held_row : (model : Metadata) (table : TableId) (nullable : Bool) (cell : Cell) → valid.IsValidCell model (kind.Row table) nullable cell
    → MayRefer model nullable (λ other. other ≡ table) cell
held_row model table nullable (Ref None) v = inl (v.refers, refl)
held_row model table nullable (Ref (Some token)) v = inr (token, listed_one table token.table v.of_kind, v.refers, refl)
held_row model table nullable _ v = absurd v.of_kind

held_coded : (model : Metadata) (listed : List (Option TableId)) (nullable : Bool) (reference : Option Token) → IsTo listed reference
    → valid.MayRefer model nullable (Ref reference) → MayRefer model nullable (λ table. Contains listed (Some table)) (Ref reference)
held_coded model listed nullable None to may = inl (may, refl)
held_coded model listed nullable (Some token) to may = inr (token, to, may, refl)

pub held_cell : (model : Metadata) (k : ColumnKind) (nullable : Bool) (cell : Cell) → valid.IsValidCell model k nullable cell → IsValidCell model k nullable cell
held_cell model kind.U8 nullable (Number number) v = (number, v.of_kind, refl)
held_cell model kind.U16 nullable (Number number) v = (number, v.of_kind, refl)
held_cell model kind.U32 nullable (Number number) v = (number, v.of_kind, refl)
held_cell model kind.Text nullable (Text text) v = (text, v.storable.0, v.storable.1, refl)
held_cell model kind.Guid nullable (Guid guid) v = (guid, v.storable, refl)
held_cell model kind.Blob nullable (Bytes blob) v = (blob, v.storable, refl)
held_cell model (kind.Signature column) nullable (Sig signature) v = (signature, v.held.0, v.held.1, v.types, refl)
held_cell model (kind.Row table) nullable cell v = held_row model table nullable cell v
held_cell model (kind.Coded coded) nullable (Ref reference) v = held_coded model (tables_of coded) nullable reference v.of_kind v.refers
held_cell model (kind.List member) nullable (Start start) v = (start, v.within, refl)
held_cell model _ nullable _ v = absurd v.of_kind

module _ (model : Metadata) (valid : IsValid model) where
  pub row_long : (table : TableId) (row : ℕ) → 1 ≤ row → row ≤ count_in model table → length (row_of model table row) ≡ cell_count table
  row_long table row first last = valid.long table row (first, last)

  pub cell_valid : (table : TableId) (row cell_index : ℕ) → 1 ≤ row → row ≤ count_in model table → cell_index < cell_count table
      → IsValidAt model table cell_index (cell_in model table row cell_index)
  cell_valid table row cell_index first last below =
      let column = column_at table (column_of table cell_index) in
      held_cell model column.kind column.nullable (cell_in model table row cell_index) (valid.cells table row cell_index (first, last) below)

  row_valid : (table : TableId) (row : ℕ) → 1 ≤ row → row ≤ count_in model table → IsValidRow model table (row_of model table row)
  unfolding IsValidRow
  row_valid table row first last =
      are_from (IsValidAt model table) 0 (cell_count table) (row_of model table row) (Number 0) (row_long table row first last)
      (λ k j below e. let same : k ≡ j = omega arith in subst (λ i. IsValidAt model table i (cell_in model table row k)) same
      (cell_valid table row k first last below))

  table_valid : (table : TableId) → AllByRecursion (IsValidRow model table) (rows_of model table)
  table_valid table =
      recursion_from_All (IsValidRow model table) (rows_of model table) (All-from_get_or (IsValidRow model table) (rows_of model table) []
      (λ k below.
      let back : k + 1 - 1 ≡ k = omega arith in
      subst (λ i. IsValidRow model table (get_or (rows_of model table) i [])) back
      (row_valid table (k + 1) (omega arith) (omega arith))))

  pub tables_valid : AreFrom (AreValidRows model) 0 38 model.tables
  tables_valid =
      are_from (AreValidRows model) 0 38 model.tables [] valid.tables
      (λ k j below e.
      let same : table_index_of (table_at j) ≡ k = table_index_at j (omega arith) ∙ omega arith in
      subst (λ i. AllByRecursion (IsValidRow model (table_at j)) (get_or model.tables i [])) same (table_valid (table_at j)))
