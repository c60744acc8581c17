-- The key numbers of a root are those of its model.
use Rattle.metadata.proofs.Prelude.{◌≡◌, ℕ, Contains, ◌+◌, ◌-◌, ◌*◌, ◌^◌, ◌<◌, ◌≤◌, ◌⊎◌, Bool, true, false, not, List, get_or, refl, sym, ap, subst, ◌∙◌, inl, inr, Option, Some, None, arith, position_or_len, cases_Bool, not-true, eqb-true, slice_get_within, slice_get-get_or, TableId, Module, Token, Coded, ColumnKind, table_number, column_at, key_of, IsReference, tables_of, tag_bits, IsCoded, is_padding, cell_count, column_of, is_table, Cell, Metadata, count_in, cell_in, Source, rows_in, number_of, start_of, StandsFor, Refers, IsCell, IsInOrder, IsKeyCell, kind_at, key_number, key_in, IsKeyOrdered}
use Rattle.std.specs.Prelude.{slice_get}
use Rattle.std.proofs.lemmas.Bool.Decides.{nat_tests}
use Rattle.std.proofs.lemmas.List.Sums.{position_or_len_is}
use Rattle.table_schema.specs.declared.column.ColumnKind.TheVariants as kind
use Rattle.table_schema.proofs.CellColumnLemmas.{column_cell}
use Rattle.table_schema.proofs.CodedLemmas.{one_tag}
use Rattle.table_schema.proofs.TableFacts.{key_within, key_reference}
use Rattle.metadata.proofs.ByNumber.{one_number}

-- ---- the tag of a table is its index in the list

-- an entry with the number of a table is the table
entry_is : (table : TableId) (entry : Option TableId) → is_table table entry ≡ true → entry ≡ Some table
entry_is table None e = cc
entry_is table (Some other) e = ap Some (sym (one_number table other (eqb-true (table_number table) (table_number other) e)))

table_is : (table : TableId) → is_table table (Some table) ≡ true
table_is table = grind (arith, nat_tests)

tag_in : (listed : List (Option TableId)) (table : TableId) (tag : ℕ)
    → ((a b : ℕ) → slice_get listed a ≡ Some (Some table) → slice_get listed b ≡ Some (Some table) → a ≡ b) → slice_get listed tag ≡ Some (Some table)
    → position_or_len (is_table table) listed ≡ tag
tag_in listed table tag one e =
    let within = slice_get_within listed tag (Some table) e in
    let here : get_or listed tag None ≡ Some table = let s = slice_get-get_or listed tag None within in cc in
    position_or_len_is (is_table table) listed tag None (omega arith)
    (λ k below. elim (cases_Bool (is_table table (get_or listed k None))) [
      | inl same_number ↦
          let same = one k tag (slice_get-get_or listed k None (omega arith) ∙ ap Some (entry_is table (get_or listed k None) same_number)) e in
          absurd (omega arith)
      | inr fails ↦ fails
    ])
    (λ below. subst (λ (entry : Option TableId). is_table table entry ≡ true) (sym here) (table_is table))

pub tag_is : (coded : Coded) (table : TableId) (tag : ℕ) → slice_get (tables_of coded) tag ≡ Some (Some table)
    → position_or_len (is_table table) (tables_of coded) ≡ tag
tag_is coded table tag e = tag_in (tables_of coded) table tag (λ a b. one_tag coded a b table) e

-- the tag of a table that a coded index lists
pub tag_listed : (coded : Coded) (table : TableId) → Contains (tables_of coded) (Some table)
    → slice_get (tables_of coded) (position_or_len (is_table table) (tables_of coded)) ≡ Some (Some table)
tag_listed coded table (k, within, is) =
    let listed : slice_get (tables_of coded) k ≡ Some (Some table) = slice_get-get_or (tables_of coded) k (Some table) within ∙ ap (λ t. Some t) is in
    subst (λ (n : ℕ). slice_get (tables_of coded) n ≡ Some (Some table)) (sym (tag_is coded table k listed)) listed

-- ---- the number of a reference that does not allow null

row_key : (source : Source) (table : TableId) (number : ℕ) (cell : Cell) → Refers source false (record { table = table; row = number }) cell
    → number ≡ key_number (kind.Row table) cell
row_key source table number cell (inl null) = cc
row_key source table number cell (inr is) = sym (ap (key_number (kind.Row table)) is.1)

coded_key : (source : Source) (coded : Coded) (number : ℕ) (cell : Cell) (token : Token) → IsCoded coded number token.table token.row
    → Refers source false token cell → number ≡ key_number (kind.Coded coded) cell
coded_key source coded number cell token is (inl null) = cc
coded_key source coded number cell token is (inr there) =
    let tag = tag_is coded token.table is.tag is.listed in
    is.equal ∙ ap (λ (t : ℕ). token.row * 2 ^ tag_bits coded + t) (sym tag) ∙ sym (ap (key_number (kind.Coded coded)) there.1)

reference_key : (source : Source) (k : ColumnKind) (start : TableId → ℕ) (number : ℕ) (cell : Cell)
    → ((table : TableId) × (k ≡ kind.Row table)) ⊎ ((coded : Coded) × (k ≡ kind.Coded coded))
    → StandsFor source k false start number cell → number ≡ key_number k cell
reference_key source k start number cell (inl row) stands =
    subst (λ (j : ColumnKind). number ≡ key_number j cell) (sym row.1)
    (row_key source row.0 number cell (subst (λ (j : ColumnKind). StandsFor source j false start number cell) row.1 stands))
reference_key source k start number cell (inr coded) stands =
    let is = subst (λ (j : ColumnKind). StandsFor source j false start number cell) coded.1 stands in
    subst (λ (j : ColumnKind). number ≡ key_number j cell) (sym coded.1) (coded_key source coded.0 number cell is.0 is.1 is.2)

-- ---- key columns

abbrev plain_key : TableId → Option ℕ → Bool
plain_key table None = true
plain_key table (Some column) = not (column_at table column).nullable

keys_plain : (table : TableId) → plain_key table (key_of table) ≡ true
keys_plain Module = refl
keys_plain _ = refl

-- a key is never null
key_not_null : (table : TableId) (column : ℕ) → key_of table ≡ Some column → (column_at table column).nullable ≡ false
key_not_null table column e = not-true (column_at table column).nullable (subst (λ (k : Option ℕ). plain_key table k ≡ true) e (keys_plain table))

no_padding : (table : TableId) (column : ℕ) → IsReference (column_at table column) → is_padding (column_at table column).kind ≡ false
no_padding table column (inl row) = ap is_padding row.1
no_padding table column (inr coded) = ap is_padding coded.1

-- a key has a cell
pub key_cell : (table : TableId) (key : ℕ) → key_of table ≡ Some key → (cell_index : ℕ) × IsKeyCell table cell_index
key_cell table key is =
    let there = column_cell table key (key_within table key is) (no_padding table key (key_reference table key is)) in
    (there.0, record { within = there.1; key = is ∙ ap (λ (c : ℕ). Some c) (sym there.2) })

module _ (source : Source) (model : Metadata)
    (counts : (table : TableId) → count_in model table ≡ rows_in source table)
    (cells : (table : TableId) (row cell_index : ℕ) → 1 ≤ row → row ≤ rows_in source table → cell_index < cell_count table
    → IsCell source table row cell_index (cell_in model table row cell_index)) where
  pub key_is : (table : TableId) (key cell_index row : ℕ) → key_of table ≡ Some key → IsKeyCell table cell_index → 1 ≤ row → row ≤ rows_in source table
      → number_of source table row key ≡ key_in model table cell_index row
  key_is table key cell_index row is at first last =
      let same : column_of table cell_index ≡ key = cc in
      let stands = cells table row cell_index first last at.within in
      let plain = key_not_null table (column_of table cell_index) at.key in
      let stands_plain = subst (λ (n : Bool). StandsFor source (kind_at table cell_index) n (start_of source table row (column_of table cell_index))
      (number_of source table row (column_of table cell_index)) (cell_in model table row cell_index)) plain stands in
      subst (λ (c : ℕ). number_of source table row c ≡ key_in model table cell_index row) same
      (reference_key source (kind_at table cell_index) (start_of source table row (column_of table cell_index))
      (number_of source table row (column_of table cell_index)) (cell_in model table row cell_index) (key_reference table (column_of table cell_index) at.key) stands_plain)

  pub order_in_model : (table : TableId) (key : ℕ) → key_of table ≡ Some key → IsInOrder source table key → IsKeyOrdered model table
  order_in_model table key is ordered = λ offset row at second last.
      let here : row ≤ rows_in source table = omega (arith, counts table, last) in
      let low = key_is table key offset (row - 1) is at (omega arith) (omega arith) in
      let high = key_is table key offset row is at (omega arith) here in
      let up = ordered row second here in
      omega (arith, low, high, up)

  pub order_in_root : (table : TableId) (key : ℕ) → key_of table ≡ Some key → IsKeyOrdered model table → IsInOrder source table key
  order_in_root table key is ordered = λ row second last.
      let there = key_cell table key is in
      let low = key_is table key there.0 (row - 1) is there.1 (omega arith) (omega arith) in
      let high = key_is table key there.0 row is there.1 (omega arith) last in
      let up = ordered there.0 row there.1 second (omega (arith, counts table, last)) in
      omega (arith, low, high, up)
