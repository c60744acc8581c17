-- The numbers of the canonical table stream encode the cells of the model.
use Rattle.root_writer.proofs.Prelude.{◌≡◌, true≢false, ℕ, zero, suc, ◌+◌, ◌-◌, ◌%◌, ◌^◌, ◌<◌, ◌≤◌, Bool, true, false, ltb, List, [], ◌∷◌, length, get_or, refl, sym, ap, subst, ◌∙◌, ◌⊎◌, inl, inr, arith, or_parts, list_any, TableId, TypeDef, MethodDef, EventMap, PropertyMap, Column, ColumnKind, table_index_of, columns_of, column_at, col, MayBeNull, count_of, narrow_or_wide, kind_width, width_of, Cell, Number, Start, Metadata, rows_of, count_in, cell_in, Source, rows_in, number_of, start_from, start_of, StandsFor, cell_columns, cell_count, column_of, IsCell, IsRow, IsTable, table_at, IsTableAt, AreTables, MemberList, owner_of, cell_of, member_of, links_of, IsOwned, used, texts_of, blobs_of, guids_of, pools_of, cell_number, sizes_of, start_in, IsValid}
use Rattle.table_schema.specs.declared.column.ColumnKind.TheVariants as kind
use Rattle.metadata.specs.declared.member_lists.MemberList.TheVariants as list_of
use Rattle.metadata.proofs.ListLemmas.{list_within, list_kind}
use Rattle.root_writer.proofs.HeldRoots.{IsValidCell, row_long, cell_valid}
use Rattle.root_writer.proofs.Lists.{in_get_or, in_three, are_from}
use Rattle.root_writer.proofs.Facts.{Facts}
use Rattle.table_schema.proofs.TableFacts.{table_index_at, may_be_null, table_index_below}
use Rattle.root_writer.proofs.Widths.{count_is}
use Rattle.root_writer.proofs.Stands.{source_with, IsUsed, IsWithin, HasNull, stands}
use Rattle.root_writer.proofs.Rows.{fields, cells_of, number_is, located}
use Rattle.root_writer.proofs.Starts.{AreNumbered, start_found, low_start}

-- the source from which the cells of the canonical root are read
abbrev pub source_of : Metadata → Source
source_of model = source_with model (fields model)

-- ---- the valid cells of a row

module _ (model : Metadata) (valid : IsValid model) where
  pub cell_used : (table : TableId) (row cell_index : ℕ) → 1 ≤ row → row ≤ count_in model table → cell_index < cell_count table
      → IsUsed model (cell_in model table row cell_index)
  unfolding used
  cell_used table row cell_index first last below =
      let rows = in_get_or model.tables (table_index_of table) [] (omega (arith, valid.tables, table_index_below table)) in
      let cells = in_get_or (rows_of model table) (row - 1) [] (omega arith) in
      let cell = in_get_or (cells_of model table row) cell_index (Number 0) (omega (arith, row_long model valid table row first last)) in
      record {
        texts = λ value h. in_three texts_of (cell_in model table row cell_index) value (cells_of model table row) (rows_of model table) model.tables rows cells
            cell h;
        blobs = λ value h. in_three blobs_of (cell_in model table row cell_index) value (cells_of model table row) (rows_of model table) model.tables rows cells
            cell h;
        guids = λ value h. in_three guids_of (cell_in model table row cell_index) value (cells_of model table row) (rows_of model table) model.tables rows cells
            cell h;
      }

  -- ---- the number of a cell, at its column

  abbrev IsAt : TableId → ℕ → ℕ → ℕ → Type 0
  IsAt table row cell_index column =
      (column < length (columns_of table))
      × (number_of (source_of model) table row column
      ≡ cell_number (pools_of model) (column_at table column).kind (cell_in model table row cell_index) % 256 ^ width_of (sizes_of model) (column_at table column))

  is_at : (table : TableId) (row cell_index : ℕ) → 1 ≤ row → row ≤ count_in model table → cell_index < cell_count table → IsAt table row cell_index (column_of table cell_index)
  unfolding cell_columns number_of
  is_at table row cell_index first last below =
      let here = located (cell_number (pools_of model)) (columns_of table) (cells_of model table row) 0 cell_index (col kind.U8) (Number 0) below (row_long model valid table row first last) in
      let number = number_is model table row here.index (col kind.U8) first last here.below
      ∙ ap (λ n. n % 256 ^ width_of (sizes_of model) (column_at table here.index)) here.number in
      let same : here.index ≡ column_of table cell_index = omega (arith, here.at) in
      subst (IsAt table row cell_index) same (here.below, number)

  pub column_below : (table : TableId) (row cell_index : ℕ) → 1 ≤ row → row ≤ count_in model table → cell_index < cell_count table
      → column_of table cell_index < length (columns_of table)
  column_below table row cell_index first last below = (is_at table row cell_index first last below).0

  pub number_at : (table : TableId) (row cell_index : ℕ) → 1 ≤ row → row ≤ count_in model table → cell_index < cell_count table
      → number_of (source_of model) table row (column_of table cell_index)
      ≡ cell_number (pools_of model) (column_at table (column_of table cell_index)).kind (cell_in model table row cell_index) % 256 ^ width_of (sizes_of model)
      (column_at table (column_of table cell_index))
  number_at table row cell_index first last below = (is_at table row cell_index first last below).1

-- ---- the starts of a column

record IsStart (model : Metadata) (member : TableId) (cell : Cell) : Type 0 where
  high : start_in cell ≤ count_in model member + 1
  is : cell ≡ Start (start_in cell)

start_cell : (model : Metadata) (k : ColumnKind) (nullable : Bool) (member : TableId) (cell : Cell) → k ≡ kind.List member
    → IsValidCell model k nullable cell → IsStart model member cell
start_cell model k nullable member cell e valid =
    let is = subst (λ (j : ColumnKind). IsValidCell model j nullable cell) e valid in
    rw (is.2) (record { high = is.1; is = refl })

module _ (facts : Facts) (model : Metadata) (valid : IsValid model) (within : IsWithin model) (list : MemberList) where
  abbrev own_column : ℕ
  own_column = column_of (owner_of list) (cell_of list)

  abbrev start : ℕ → ℕ
  start row = start_in (cell_in model (owner_of list) row (cell_of list))

  owned : IsOwned (links_of model) list
  owned = valid.linked.owned list

  start_at : (row : ℕ) → 1 ≤ row → row ≤ count_in model (owner_of list) → IsStart model (member_of list) (cell_in model (owner_of list) row (cell_of list))
  start_at row first last =
      start_cell model (column_at (owner_of list) own_column).kind (column_at (owner_of list) own_column).nullable (member_of list)
      (cell_in model (owner_of list) row (cell_of list)) (list_kind list)
      (cell_valid model valid (owner_of list) row (cell_of list) first last (list_within list))

  value_at : (row : ℕ) → 1 ≤ row → row ≤ count_in model (owner_of list)
      → number_of (source_of model) (owner_of list) row own_column ≡ start row % 256 ^ narrow_or_wide (ltb (count_in model (member_of list)) (2 ^ 16))
  value_at row first last =
      let width : width_of (sizes_of model) (column_at (owner_of list) own_column) ≡ narrow_or_wide (ltb (count_in model (member_of list)) (2 ^ 16)) =
      ap (kind_width (sizes_of model)) (list_kind list) ∙ ap (λ n. narrow_or_wide (ltb n (2 ^ 16))) (count_is model (member_of list)) in
      let number : cell_number (pools_of model) (column_at (owner_of list) own_column).kind (cell_in model (owner_of list) row (cell_of list)) ≡ start row =
      ap (cell_number (pools_of model) (column_at (owner_of list) own_column).kind) (start_at row first last).is in
      number_at model valid (owner_of list) row (cell_of list) first last (list_within list)
      ∙ ap (λ n. n % 256 ^ width_of (sizes_of model) (column_at (owner_of list) own_column)) number ∙ ap (λ w. start row % 256 ^ w) width

  -- no start is 0, because the first is 1 and none is lower than the one before
  start_low : (n : ℕ) → n < count_in model (owner_of list) → 1 ≤ start (n + 1)
  start_low zero below = omega (arith, owned.first (λ e. absurd (omega arith)))
  start_low (suc n) below =
      let back : suc n + 1 - 1 ≡ n + 1 = omega arith in
      let up = subst (λ r. start r ≤ start (suc n + 1)) back (owned.rising (suc n + 1) (omega arith) (omega arith)) in
      omega (arith, start_low n (omega arith), up)

  low_at : (row : ℕ) → 1 ≤ row → row ≤ count_in model (owner_of list) → 1 ≤ start row
  low_at row first last = let there : row - 1 + 1 ≡ row = omega arith in subst (λ r. 1 ≤ start r) there (start_low (row - 1) (omega arith))

  either : (value s count width : ℕ) → value ≡ s % 256 ^ width → (s % 256 ^ width ≡ s) ⊎ ((s % 256 ^ width ≡ 0) × (s ≡ count + 1)) → (value ≡ s)
      ⊎ ((value ≡ 0) × (s ≡ count + 1))
  either value s count width e (inl same) = inl (e ∙ same)
  either value s count width e (inr null) = inr (e ∙ null.0, null.1)

  numbered : (row : ℕ) → 1 ≤ row → row ≤ count_in model (owner_of list)
      → AreNumbered (λ r. number_of (source_of model) (owner_of list) r own_column) start (count_in model (member_of list) + 1) row (suc (count_in model (owner_of list) - row))
  numbered row first last = record {
    is = λ r l h. either (number_of (source_of model) (owner_of list) r own_column) (start r) (count_in model (member_of list))
        (narrow_or_wide (ltb (count_in model (member_of list)) (2 ^ 16)))
        (value_at r (omega arith) (omega arith)) (low_start (count_in model (member_of list)) (start r) (start_at r (omega arith) (omega arith)).high
        (within.counts (member_of list)));
    low = λ r l h. low_at r (omega arith) (omega arith);
    high = λ r l h. (start_at r (omega arith) (omega arith)).high;
    rises = λ r l h. let up = owned.rising (r + 1) (omega arith) (omega arith) in let back : r + 1 - 1 ≡ r =
        omega arith in subst (λ k. start k ≤ start (r + 1)) back up;
  }

  -- the start of a run is the value of the owner's cell
  pub start_stands : (row : ℕ) → 1 ≤ row → row ≤ count_in model (owner_of list)
      → start_of (source_of model) (owner_of list) row own_column (member_of list) ≡ start row
  unfolding start_of
  start_stands row first last =
      let many : count_of (sizes_of model) (owner_of list) + 1 - row ≡ suc (count_in model (owner_of list) - row) = omega (arith, count_is model (owner_of list)) in
      let value = λ (r : ℕ). number_of (source_of model) (owner_of list) r own_column in
      ap (λ n. start_from value (n + 1) row (count_of (sizes_of model) (owner_of list) + 1 - row)) (count_is model (member_of list))
      ∙ ap (start_from value (count_in model (member_of list) + 1) row) many
      ∙ start_found value start (count_in model (member_of list) + 1) row (count_in model (owner_of list) - row) (numbered row first last)

-- ---- which columns list members

abbrev is_list : ColumnKind → Bool
is_list (kind.List member) = true
is_list _ = false

no_list : (columns : List Column) (i : ℕ) (member : TableId) → list_any (λ column. is_list column.kind) columns ≡ false
    → (get_or columns i (col kind.U8)).kind ≡ kind.List member → ⊥
no_list [] i member none e = cc
no_list (column ∷ columns) zero member none e =
    true≢false (sym (ap is_list e) ∙ (or_parts (is_list column.kind) (list_any (λ column. is_list column.kind) columns) none).0)
no_list (column ∷ columns) (suc i) member none e =
    no_list columns i member (or_parts (is_list column.kind) (list_any (λ column. is_list column.kind) columns) none).1 e

-- the list of a column
record ListAt (table : TableId) (cell_index : ℕ) (member : TableId) : Type 0 where
  list : MemberList
  owner : owner_of list ≡ table
  cell : cell_of list ≡ cell_index
  members : member_of list ≡ member

abbrev HasList : TableId → ℕ → Type 0
HasList table cell_index = (member : TableId) → (column_at table (column_of table cell_index)).kind ≡ kind.List member → ListAt table cell_index member

list_of_type : (cell_index : ℕ) → HasList TypeDef cell_index
unfolding cell_columns
list_of_type (suc (suc (suc (suc zero)))) member e = record { list = list_of.Fields; owner = refl; cell = refl; members = cc }
list_of_type (suc (suc (suc (suc (suc zero))))) member e = record { list = list_of.Methods; owner = refl; cell = refl; members = cc }
list_of_type _ member e = cc

list_of_method : (cell_index : ℕ) → HasList MethodDef cell_index
unfolding cell_columns
list_of_method (suc (suc (suc (suc (suc zero))))) member e = record { list = list_of.Params; owner = refl; cell = refl; members = cc }
list_of_method _ member e = cc

list_of_events : (cell_index : ℕ) → HasList EventMap cell_index
unfolding cell_columns
list_of_events (suc zero) member e = record { list = list_of.Events; owner = refl; cell = refl; members = cc }
list_of_events _ member e = cc

list_of_properties : (cell_index : ℕ) → HasList PropertyMap cell_index
unfolding cell_columns
list_of_properties (suc zero) member e = record { list = list_of.Properties; owner = refl; cell = refl; members = cc }
list_of_properties _ member e = cc

list_at : (table : TableId) (cell_index : ℕ) → HasList table cell_index
list_at TypeDef cell_index = list_of_type cell_index
list_at MethodDef cell_index = list_of_method cell_index
list_at EventMap cell_index = list_of_events cell_index
list_at PropertyMap cell_index = list_of_properties cell_index
list_at table cell_index = λ member e. absurd (no_list (columns_of table) (column_of table cell_index) member refl e)

-- ---- the rows of the tables encode those of the model

has_null : (column : Column) → MayBeNull column → HasNull column.kind
has_null column may = (may.coded, may.first, may.is, may.used)

module _ (facts : Facts) (model : Metadata) (valid : IsValid model) (within : IsWithin model) where
  -- the start of a run in a column that lists members
  start_is : (table : TableId) (cell_index : ℕ) (member : TableId) → ListAt table cell_index member → (row : ℕ) → 1 ≤ row → row ≤ count_in model table
      → start_of (source_of model) table row (column_of table cell_index) member ≡ start_in (cell_in model table row cell_index)
  start_is table cell_index member at =
      let P : TableId → ℕ → TableId → Type 0 = λ t c m. (row : ℕ) → 1 ≤ row → row ≤ count_in model t
      → start_of (source_of model) t row (column_of t c) m ≡ start_in (cell_in model t row c) in
      subst (λ t. P t cell_index member) at.owner (subst (λ c. P (owner_of at.list) c member) at.cell
      (subst (P (owner_of at.list) (cell_of at.list)) at.members (start_stands facts model valid within at.list)))

  cell_stands : (table : TableId) (row cell_index : ℕ) → 1 ≤ row → row ≤ count_in model table → cell_index < cell_count table
      → IsCell (source_of model) table row cell_index (cell_in model table row cell_index)
  cell_stands table row cell_index first last below =
      let column = column_at table (column_of table cell_index) in
      let cell = cell_in model table row cell_index in
      let start = start_of (source_of model) table row (column_of table cell_index) in
      let started : (member : TableId) → column.kind ≡ kind.List member → start member ≡ cell_number (pools_of model) column.kind cell = λ member lists.
      let is = start_cell model column.kind column.nullable member cell lists (cell_valid model valid table row cell_index first last below) in
      start_is table cell_index member (list_at table cell_index member lists) row first last
      ∙ sym (ap (cell_number (pools_of model) column.kind) is.is) in
      subst (λ n. StandsFor (source_of model) column.kind column.nullable start n cell) (sym (number_at model valid table row cell_index first last below))
      (stands facts model within (fields model) column.kind column.nullable start cell
      (cell_used model valid table row cell_index first last below)
      (λ nullable. has_null column (may_be_null table (column_of table cell_index) (column_below model valid table row cell_index first last below) nullable))
      started
      (cell_valid model valid table row cell_index first last below))

  row_stands : (table : TableId) (row : ℕ) → 1 ≤ row → row ≤ count_in model table → IsRow (source_of model) table row (cells_of model table row)
  unfolding IsRow
  row_stands table row first last =
      are_from (IsCell (source_of model) table row) 0 (cell_count table) (cells_of model table row) (Number 0) (row_long model valid table row first last)
      (λ k j below e. let same : k ≡ j = omega arith in
      subst (λ i. IsCell (source_of model) table row i (cell_in model table row k)) same (cell_stands table row k first last below))

  table_stands : (table : TableId) → IsTable (source_of model) table (rows_of model table)
  unfolding IsTable
  table_stands table =
      let count = count_is model table in
      are_from (IsRow (source_of model) table) 1 (rows_in (source_of model) table) (rows_of model table) [] (sym count)
      (λ k j below e.
      let back : j - 1 ≡ k = omega arith in
      subst (λ i. IsRow (source_of model) table j (get_or (rows_of model table) i [])) back (row_stands table j (omega arith) (omega (arith, count))))

  pub tables_stand : AreTables (source_of model) model.tables
  unfolding IsTableAt
  tables_stand =
      are_from (IsTableAt (source_of model)) 0 38 model.tables [] valid.tables
      (λ k j below e.
      let same : table_index_of (table_at j) ≡ k = table_index_at j (omega arith) ∙ omega arith in
      subst (λ i. IsTable (source_of model) (table_at j) (get_or model.tables i [])) same (table_stands (table_at j)))
