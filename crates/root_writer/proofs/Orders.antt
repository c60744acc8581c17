-- The tables whose Sorted bit is set are in order of their keys, and the links between rows are valid.
use Rattle.root_writer.proofs.Prelude.{◌≡◌, ℕ, ◌+◌, ◌-◌, ◌%◌, ◌^◌, ◌<◌, ◌≤◌, Bool, true, List, [], map, length, get_or, Contains, refl, sym, ap, subst, ◌∙◌, inl, inr, Option, Some, None, arith, slice_index, position_or_len, length-map, get_or-map, mod-eq_of_lt, one-le-pow, TableId, Coded, Column, ColumnKind, columns_of, column_at, key_of, col, IsReference, tables_of, count_of, kind_width, row_index_width, coded_width, width_of, is_table, Cell, Number, Metadata, rows_of, count_in, cell_in, number_of, cell_columns, cell_count, column_of, table_at, IsKeyCell, is_said_sorted, IsByKey, AreByKey, AreLinked, links_in, links_of, start_of, owner_of, member_of, Pools, pools_of, cell_number, numbers_by, rises, is_by_key, table_keys, is_sorted, sizes_of, row_in, IsValid}
use Rattle.schema.proofs.BitLemmas.{has_bit_of}
use Rattle.table_schema.specs.declared.column.ColumnKind.TheVariants as kind
use Rattle.metadata.specs.KeyOrder.{key_number, key_in, IsKeyOrdered}
use Rattle.root_writer.proofs.HeldRoots.{MayRefer, IsValidCell, row_long, cell_valid}
use Rattle.root_writer.proofs.Facts.{Facts}
use Rattle.root_writer.proofs.Widths.{count_is, row_fits, coded_fits}
use Rattle.table_schema.proofs.CodedLemmas.{tag_below}
use Rattle.table_schema.proofs.TableFacts.{key_reference}
use Rattle.metadata.proofs.KeyLemmas.{tag_listed, key_cell}
use Rattle.metadata.proofs.LinkLemmas.{links_alike}
use Rattle.metadata.proofs.ListLemmas.{list_column}
use Rattle.root_writer.proofs.Stands.{IsWithin}
use Rattle.root_writer.proofs.Starts.{rises_at, rises_from}
use Rattle.root_writer.proofs.Rows.{cells_of, located}
use Rattle.root_writer.proofs.Tables.{source_of, number_at, start_stands}

-- ---- the number of a reference fits its column

module _ (model : Metadata) (within : IsWithin model) where
  few : (table : TableId) → count_of (sizes_of model) table ≤ 0xFFFFFF
  few table = rw (count_is model table) (within.counts table)

  row_reference_fits : (nullable : Bool) (table : TableId) (cell : Cell) → MayRefer model nullable (λ other. other ≡ table) cell
      → cell_number (pools_of model) (kind.Row table) cell < 256 ^ row_index_width (sizes_of model) table
  row_reference_fits nullable table cell (inl null) = rw (null.1) (one-le-pow (row_index_width (sizes_of model) table) 256 (omega arith))
  row_reference_fits nullable table cell (inr is) =
      let token = is.0 in
      let same : token.table ≡ table = is.1 in
      rw (is.3) (row_fits token.row (count_of (sizes_of model) table) (rw (count_is model table, ← same) (is.2.1)) (few table))

  coded_reference_fits : (nullable : Bool) (coded : Coded) (cell : Cell) → MayRefer model nullable (λ table. Contains (tables_of coded) (Some table)) cell
      → cell_number (pools_of model) (kind.Coded coded) cell < 256 ^ coded_width (sizes_of model) coded
  coded_reference_fits nullable coded cell (inl null) = rw (null.1) (one-le-pow (coded_width (sizes_of model) coded) 256 (omega arith))
  coded_reference_fits nullable coded cell (inr is) =
      let token = is.0 in
      let tag = tag_listed coded token.table is.1 in
      let low = tag_below coded (position_or_len (is_table token.table) (tables_of coded)) token.table tag in
      rw (is.3) (coded_fits (sizes_of model) coded token.table token.row (position_or_len (is_table token.table) (tables_of coded)) tag low
      (rw (count_is model token.table) (is.2.1)) (few token.table))

  reference_fits : (column : Column) (cell : Cell) → IsReference column → IsValidCell model column.kind column.nullable cell
      → cell_number (pools_of model) column.kind cell < 256 ^ width_of (sizes_of model) column
  reference_fits column cell (inl row) valid =
      subst (λ k. cell_number (pools_of model) k cell < 256 ^ kind_width (sizes_of model) k) (sym row.1)
      (row_reference_fits column.nullable row.0 cell (subst (λ k. IsValidCell model k column.nullable cell) row.1 valid))
  reference_fits column cell (inr coded) valid =
      subst (λ k. cell_number (pools_of model) k cell < 256 ^ kind_width (sizes_of model) k) (sym coded.1)
      (coded_reference_fits column.nullable coded.0 cell (subst (λ k. IsValidCell model k column.nullable cell) coded.1 valid))

-- ---- keys

-- a reference has the same number whatever the pools are
key_same : (pools : Pools) (model : Metadata) (nullable : Bool) (k : ColumnKind) (P : TableId → Type 0) (cell : Cell) → MayRefer model nullable P cell
    → cell_number pools k cell ≡ key_number k cell
key_same pools model nullable k P cell (inl null) = rw (null.1) refl
key_same pools model nullable k P cell (inr is) = rw (is.3) refl

column_key : (pools : Pools) (model : Metadata) (column : Column) (cell : Cell) → IsReference column → IsValidCell model column.kind column.nullable cell
    → cell_number pools column.kind cell ≡ key_number column.kind cell
column_key pools model column cell (inl row) valid =
    key_same pools model column.nullable column.kind (λ other. other ≡ row.0) cell (subst (λ k. IsValidCell model k column.nullable cell) row.1 valid)
column_key pools model column cell (inr coded) valid =
    key_same pools model column.nullable column.kind (λ table. Contains (tables_of coded.0) (Some table)) cell
    (subst (λ k. IsValidCell model k column.nullable cell) coded.1 valid)

-- the key numbers of a table, in the order of its rows
abbrev keys_of : Metadata → TableId → ℕ → List ℕ
keys_of model table key = map (λ (numbers : List ℕ). slice_index numbers key) (table_keys model table)

keys_long : (model : Metadata) (table : TableId) (key : ℕ) → length (keys_of model table key) ≡ count_in model table
keys_long model table key =
    length-map (table_keys model table) (λ (numbers : List ℕ). slice_index numbers key) ∙ length-map (rows_of model table) (numbers_by key_number (columns_of table))

module _ (model : Metadata) (valid : IsValid model) where
  key_at : (table : TableId) (key cell_index row : ℕ) → key_of table ≡ Some key → IsKeyCell table cell_index → 1 ≤ row → row ≤ count_in model table
      → get_or (keys_of model table key) (row - 1) 0 ≡ key_in model table cell_index row
  unfolding cell_columns
  key_at table key cell_index row is at first last =
      let cells = cells_of model table row in
      let here = located key_number (columns_of table) cells 0 cell_index (col kind.U8) (Number 0) at.within (row_long model valid table row first last) in
      let same : column_of table cell_index ≡ key = cc in
      let index : here.index ≡ column_of table cell_index = omega (arith, here.at) in
      let number : get_or (numbers_by key_number (columns_of table) cells) (column_of table cell_index) 0 ≡ key_in model table cell_index row =
      subst (λ i. get_or (numbers_by key_number (columns_of table) cells) i 0 ≡ key_number (column_at table i).kind (cell_in model table row cell_index)) index
      here.number in
      let many = length-map (rows_of model table) (numbers_by key_number (columns_of table)) in
      let row_is : get_or (table_keys model table) (row - 1) [] ≡ numbers_by key_number (columns_of table) cells =
      get_or-map (numbers_by key_number (columns_of table)) (rows_of model table) (row - 1) [] [] (omega arith) in
      get_or-map (λ (r : List ℕ). slice_index r key) (table_keys model table) (row - 1) [] 0 (omega (arith, many))
      ∙ ap (λ (r : List ℕ). slice_index r key) row_is
      ∙ subst (λ i. get_or (numbers_by key_number (columns_of table) cells) i 0 ≡ key_in model table cell_index row) same number

  -- the Sorted bit of a table is set if and only if its keys are in order
  pub order_reported : (table : TableId) (key : ℕ) → key_of table ≡ Some key → is_sorted model table ≡ true → IsKeyOrdered model table
  order_reported table key is sorted = λ cell_index row at second last.
      let up = rises_at (keys_of model table key) (row - 1 - 1) (sym (ap (is_by_key (table_keys model table)) is) ∙ sorted)
      (omega (arith, keys_long model table key)) in
      let back : row - 1 - 1 + 1 ≡ row - 1 = omega arith in
      let low = key_at table key cell_index (row - 1) is at (omega arith) (omega arith) in
      let high = key_at table key cell_index row is at (omega arith) last in
      let here = rw back at up in
      omega (arith, low, high, here)

  pub order_reports : (table : TableId) (key : ℕ) → key_of table ≡ Some key → IsKeyOrdered model table → is_sorted model table ≡ true
  order_reports table key is ordered =
      let cell_index = key_cell table key is in
      ap (is_by_key (table_keys model table)) is ∙ rises_from (keys_of model table key) (λ i below.
      let many = keys_long model table key in
      let first : i + 1 - 1 ≡ i = omega arith in
      let second : i + 2 - 1 ≡ i + 1 = omega arith in
      let low = subst (λ (k : ℕ). get_or (keys_of model table key) k 0 ≡ key_in model table cell_index.0 (i + 1)) first
      (key_at table key cell_index.0 (i + 1) is cell_index.1 (omega arith) (omega arith)) in
      let high = subst (λ (k : ℕ). get_or (keys_of model table key) k 0 ≡ key_in model table cell_index.0 (i + 2)) second
      (key_at table key cell_index.0 (i + 2) is cell_index.1 (omega arith) (omega arith)) in
      let up = subst (λ (k : ℕ). key_in model table cell_index.0 k ≤ key_in model table cell_index.0 (i + 2)) second
      (ordered cell_index.0 (i + 2) cell_index.1 (omega arith) (omega arith)) in
      rw (low, high) up)

module _ (model : Metadata) (valid : IsValid model) (within : IsWithin model) where
  -- the number of a key is the one by which rows are compared
  key_value : (table : TableId) (key row : ℕ) → key_of table ≡ Some key → 1 ≤ row → row ≤ count_in model table
      → number_of (source_of model) table row key ≡ get_or (keys_of model table key) (row - 1) 0
  unfolding cell_columns number_of
  key_value table key row is first last =
      let cell_index = key_cell table key is in
      let same : column_of table cell_index.0 ≡ key = let e = cell_index.1.key in cc in
      let column = column_at table (column_of table cell_index.0) in
      let cell = cell_in model table row cell_index.0 in
      let reference = key_reference table (column_of table cell_index.0) cell_index.1.key in
      let good = cell_valid model valid table row cell_index.0 first last cell_index.1.within in
      let fits = reference_fits model within column cell reference good in
      let value = number_at model valid table row cell_index.0 first last cell_index.1.within ∙ mod-eq_of_lt fits ∙ column_key (pools_of model) model column cell reference good in
      subst (λ (c : ℕ). number_of (source_of model) table row c ≡ key_in model table cell_index.0 row) same value
      ∙ sym (key_at model valid table key cell_index.0 row is cell_index.1 first last)

  said_sorted : (table : TableId) → is_said_sorted (source_of model) table ≡ is_sorted model table
  unfolding sizes_of
  said_sorted table = has_bit_of (is_sorted model) table

  by_key : (table : TableId) (key : Option ℕ) → key_of table ≡ key → IsByKey (source_of model) table key
  by_key table None is = tt
  by_key table (Some key) is = λ said row second last.
      let count = count_is model table in
      let keys = keys_of model table key in
      let many = keys_long model table key in
      let sorted : rises keys ≡ true = sym (ap (is_by_key (table_keys model table)) is) ∙ sym (said_sorted table) ∙ said in
      let up = rises_at keys (row - 1 - 1) sorted (omega (arith, many, count)) in
      let back : row - 1 - 1 + 1 ≡ row - 1 = omega arith in
      rw (key_value table key (row - 1) is (omega arith) (omega (arith, count)), key_value table key row is (omega arith) (omega (arith, count)))
      (rw back at up)

  pub are_by_key : AreByKey (source_of model)
  are_by_key = λ table_index below. by_key (table_at table_index) (key_of (table_at table_index)) refl

  -- ---- the links between rows

  row_number_is : (nullable : Bool) (table : TableId) (cell : Cell) → MayRefer model nullable (λ other. other ≡ table) cell
      → cell_number (pools_of model) (kind.Row table) cell ≡ row_in cell
  row_number_is nullable table cell (inl null) = rw (null.1) refl
  row_number_is nullable table cell (inr is) = rw (is.3) refl

  reference_value : (table target : TableId) (row cell_index : ℕ) → 1 ≤ row → row ≤ count_in model table → cell_index < cell_count table
      → (column_at table (column_of table cell_index)).kind ≡ kind.Row target
      → number_of (source_of model) table row (column_of table cell_index) ≡ row_in (cell_in model table row cell_index)
  reference_value table target row cell_index first last below is =
      let column = column_at table (column_of table cell_index) in
      let cell = cell_in model table row cell_index in
      let good : IsValidCell model (kind.Row target) column.nullable cell =
      subst (λ k. IsValidCell model k column.nullable cell) is (cell_valid model valid table row cell_index first last below) in
      let fits = row_reference_fits model within column.nullable target cell good in
      number_at model valid table row cell_index first last below
      ∙ ap (λ k. cell_number (pools_of model) k cell % 256 ^ kind_width (sizes_of model) k) is
      ∙ mod-eq_of_lt fits
      ∙ row_number_is column.nullable target cell good

  pub are_linked : Facts → AreLinked (links_in (source_of model))
  are_linked facts = links_alike (links_of model) (links_in (source_of model)) (record {
    counts = λ table. sym (count_is model table);
    starts = λ list row first last.
        sym (start_stands facts model valid within list row first last)
        ∙ ap (λ (column : ℕ). start_of (source_of model) (owner_of list) row column (member_of list)) (list_column list);
    references = λ table target row column first last to.
        sym (subst (λ (c : ℕ). number_of (source_of model) table row c ≡ row_in (cell_in model table row column)) to.cell
        (reference_value table target row column first last to.within (ap (λ (c : ℕ). (column_at table c).kind) to.cell ∙ to.refers)));
  }) valid.linked
