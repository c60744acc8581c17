-- Columns whose rules hold.
use Rattle.checks.proofs.Prelude.{◌≡◌, ℕ, ◌+◌, ◌<◌, ◌≤◌, List, ◌⊎◌, inl, inr, sym, subst, arith, length, cases_eq, Rule, AllHold, HoldBefore, rules_from, all_of_each, each_holds, TableId, Column, ColumnKind, columns_of, column_at, rows_in, number_of, SourceAt, cell_offset, rules_of_number, rules_of_cell, rules_of_row, rules_of_encoding, rules_of_signature, rules_of_signatures_in, AllPass, IsNotEncoded, ColumnMeets, ColumnStands, ColumnEncodes}
use Rattle.packed.specs.declared.fault.Fault.{Fault}
use Rattle.table_schema.specs.declared.column.ColumnKind.TheVariants as kind

-- if the rules of all columns hold, the rules of a row hold
row_meets : (rules : ℕ → ℕ → List (Rule Fault)) (end width row : ℕ) → ((column : ℕ) → column < width → ColumnMeets rules end column)
    → 1 ≤ row → row < end → AllHold (rules_from (rules row) 0 width)
row_meets rules end width row meet first before =
    all_of_each (rules row) 0 width (λ column low high. (meet column (omega arith)).each row first before)

-- one more column, whose rules hold in fewer rows
pub meets_more : (rules : ℕ → ℕ → List (Rule Fault)) (end fewer column : ℕ) → fewer ≤ end
    → ((earlier : ℕ) → earlier < column → ColumnMeets rules end earlier) → ColumnMeets rules fewer column
    → (earlier : ℕ) → earlier < column + 1 → ColumnMeets rules fewer earlier
meets_more rules end fewer column few meet here earlier within = elim (cases_eq earlier column) [
  | inl same ↦ (let P : ℕ → Type 0 = λ c. ColumnMeets rules fewer c in subst P (sym same) here)
  | inr other ↦ record { each = λ row first before. (meet earlier (omega arith)).each row first (omega arith) }
]

module _ (here : SourceAt) (table : TableId) (end columns : ℕ) (all : length (columns_of table) ≤ columns) where
  -- if the rules of all columns hold, the rules of the rows hold
  pub rows_stand : ((column : ℕ) → column < columns → ColumnStands here table end column) → HoldBefore (rules_of_row here table) 1 end
  unfolding rules_of_row
  rows_stand stand = record {
    each = λ row first before.
        row_meets (rules_of_cell here table) end (length (columns_of table)) row (λ column within. stand column (omega arith)) first before;
  }

  pub rows_encode : ((column : ℕ) → column < columns → ColumnEncodes here table end column) → HoldBefore (rules_of_signatures_in here table) 1 end
  unfolding rules_of_signatures_in
  rows_encode encode = record {
    each = λ row first before.
        row_meets (rules_of_signature here table) end (length (columns_of table)) row (λ column within. encode column (omega arith)) first before;
  }

-- the first broken row stays the first, or a column has one before
pub still_broken : (here : SourceAt) (table : TableId) (end fewer column : ℕ) → column < length (columns_of table) → fewer ≤ end
    → (end ≤ rows_in here.source table → ¬ AllHold (rules_of_signatures_in here table end))
    → (fewer < end → ¬ AllHold (rules_of_signature here table fewer column))
    → fewer ≤ rows_in here.source table → ¬ AllHold (rules_of_signatures_in here table fewer)
unfolding rules_of_signatures_in
still_broken here table end fewer column within few before broken last all = elim (cases_eq fewer end) [
  | inl same ↦
      before (omega (arith, same, last))
      (subst (λ (row : ℕ). AllHold (rules_from (rules_of_signature here table row) 0 (length (columns_of table)))) same all)
  | inr other ↦ broken (omega (arith, few, other)) (each_holds (rules_of_signature here table fewer) 0 (length (columns_of table)) all column (omega arith) (omega arith))
]

-- any number passes if there is no rule
pub none_asked : (here : SourceAt) (table : TableId) (column end : ℕ) → AllPass (λ number. Unit {0}) here.source table column end
none_asked here table column end = record { each = λ row first last. tt }

module _ (here : SourceAt) (table : TableId) (column end : ℕ) (held : Column) (is : held ≡ column_at table column) where
  -- each number of a column passes, and a number that passes obeys the rules of the column's kind, whatever its offset
  pub passed_stands : (P : ℕ → Type 0) (kind : ColumnKind) → held.kind ≡ kind → AllPass P here.source table column end
      → ((number : ℕ) → P number → (offset : ℕ) → AllHold (rules_of_number here.source kind held.nullable number offset))
      → ColumnStands here table end column
  unfolding rules_of_cell
  passed_stands P kind of_kind pass stands = record {
    each = λ row first last.
        rw (← of_kind, is) at (stands (number_of here.source table row column) (pass.each row first last) (cell_offset here table row column));
  }

  -- a number that encodes no signature breaks the rule for its cell
  pub refused_breaks : (kind : ColumnKind) → held.kind ≡ kind → (row : ℕ) → IsNotEncoded here.source kind (number_of here.source table row column)
      → ¬ AllHold (rules_of_signature here table row column)
  unfolding rules_of_signature
  refused_breaks kind of_kind row not all =
      not (cell_offset here table row column)
      (subst (λ (k : ColumnKind). AllHold (rules_of_encoding here.source k (number_of here.source table row column) (cell_offset here table row column))) of_kind
      (subst (λ (h : Column). AllHold (rules_of_encoding here.source h.kind (number_of here.source table row column) (cell_offset here table row column))) (sym is) all))

  pub passed_encodes : (P : ℕ → Type 0) (kind : ColumnKind) → held.kind ≡ kind → AllPass P here.source table column end
      → ((number : ℕ) → P number → (offset : ℕ) → AllHold (rules_of_encoding here.source kind number offset))
      → ColumnEncodes here table end column
  unfolding rules_of_signature
  passed_encodes P kind of_kind pass encodes = record {
    each = λ row first last.
        rw (← of_kind, is) at (encodes (number_of here.source table row column) (pass.each row first last) (cell_offset here table row column));
  }

  plain : (kind : ColumnKind) → held.kind ≡ kind
      → ((number offset : ℕ) → AllHold (rules_of_number here.source kind held.nullable number offset)) → ColumnStands here table end column
  plain kind of_kind all = passed_stands (λ number. Unit {0}) kind of_kind (none_asked here table column end) (λ number passed. all number)

  -- plain numbers have no rule
  pub plain_stands : (held.kind ≡ kind.U8) ⊎ ((held.kind ≡ kind.U16) ⊎ ((held.kind ≡ kind.U32) ⊎ (held.kind ≡ kind.Padding)))
      → ColumnStands here table end column
  plain_stands (inl of_kind) = plain kind.U8 of_kind (λ number offset. tt)
  plain_stands (inr (inl of_kind)) = plain kind.U16 of_kind (λ number offset. tt)
  plain_stands (inr (inr (inl of_kind))) = plain kind.U32 of_kind (λ number offset. tt)
  plain_stands (inr (inr (inr of_kind))) = plain kind.Padding of_kind (λ number offset. tt)
