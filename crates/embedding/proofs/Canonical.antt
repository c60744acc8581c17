-- Roots of one model lead to the same code and data.
use Rattle.embedding.proofs.Prelude.{◌≡◌, ℕ, ◌<◌, ◌≤◌, List, sym, ◌∙◌, arith, lit<, ∥∥₁_elim, ∥∥₁_map, Coded-set, coded_list, coded_ℕ, le_prop, zero_padded, TableId, MethodDef, File, FieldRVA, Metadata, count_in, cell_in, IsModel, rows_in, source_of, row_count, user_of, HaveSameAddresses, LeadsAlike}
use Rattle.table_schema.specs.CellColumns.{cell_columns, cell_count}
use Rattle.metadata.specs.Cell.{Cell, Number}
use Rattle.metadata.specs.Rows.{IsCell}

-- the parts of a model are read from its root
pub record AreRead : Type 0 where
  pub user : (root : List ℕ) (model : Metadata) → IsModel root model → model.user ≡ zero_padded (user_of root)
  pub count : (root : List ℕ) (model : Metadata) → IsModel root model → (table : TableId) → count_in model table ≡ rows_in (source_of root) table
  pub cells : (root : List ℕ) (model : Metadata) → IsModel root model → (table : TableId) (row cell_index : ℕ)
      → 1 ≤ row → row ≤ rows_in (source_of root) table → cell_index < cell_count table
      → IsCell (source_of root) table row cell_index (cell_in model table row cell_index)

same_number : (cell : Cell) (a b : ℕ) → cell ≡ Number a → cell ≡ Number b → a ≡ b
same_number cell a b is other = cc

leads_by_model : (laws : AreRead) (root other : List ℕ) (model : Metadata) → IsModel root model → IsModel other model → LeadsAlike root other
unfolding row_count cell_columns
leads_by_model laws root other model is others =
    let count = laws.count root model is in
    let counts = laws.count other model others in
    record {
      methods = record {
        rows = sym (count MethodDef) ∙ counts MethodDef;
        addresses = λ row first last.
            same_number (cell_in model MethodDef row 0) _ _ (laws.cells root model is MethodDef row 0 first (omega (arith, count MethodDef, counts MethodDef)) (lit< tt))
            (laws.cells other model others MethodDef row 0 first last (lit< tt));
      };
      field_data = record {
        rows = sym (count FieldRVA) ∙ counts FieldRVA;
        addresses = λ row first last.
            same_number (cell_in model FieldRVA row 0) _ _ (laws.cells root model is FieldRVA row 0 first (omega (arith, count FieldRVA, counts FieldRVA)) (lit< tt))
            (laws.cells other model others FieldRVA row 0 first last (lit< tt));
      };
      files = omega (arith, count File, counts File);
      user = sym (laws.user root model is) ∙ laws.user other model others;
    }

same_addresses : (root other : List ℕ) (table : TableId) → ∥ HaveSameAddresses root other table ∥₁ → HaveSameAddresses root other table
same_addresses root other table known = record {
  rows = ∥∥₁_elim known (Coded-set coded_ℕ _ _) (λ same. same.rows);
  addresses = λ row first last. ∥∥₁_elim known (Coded-set coded_ℕ _ _) (λ same. same.addresses row first last);
}

-- two roots that have a model in common
pub leads : (laws : AreRead) (root other : List ℕ) → ∥ ((model : Metadata) × IsModel root model × IsModel other model) ∥₁ → LeadsAlike root other
leads laws root other some =
    let known : ∥ LeadsAlike root other ∥₁ = ∥∥₁_map some (λ it. leads_by_model laws root other it.0 it.1 it.2) in
    record {
      methods = same_addresses root other MethodDef (∥∥₁_map known (λ it. it.methods));
      field_data = same_addresses root other FieldRVA (∥∥₁_map known (λ it. it.field_data));
      files = ∥∥₁_elim known le_prop (λ it. it.files);
      user = ∥∥₁_elim known (Coded-set (coded_list coded_ℕ) _ _) (λ it. it.user);
    }
