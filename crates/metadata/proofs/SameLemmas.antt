-- Models with the same parts are equal.
use Rattle.metadata.proofs.Prelude.{◌≡◌, ℕ, suc, ◌+◌, ◌-◌, ◌<◌, List, [], ◌∷◌, length, get_or, refl, sym, subst, ◌∙◌, arith, TableId, tables, Number, Metadata, rows_of, row_of, HasRow, table_at}
use Rattle.table_schema.proofs.TableFacts.{table_index_at}
use Rattle.metadata.specs.Same.{SaysSame}

-- lists with the same items are equal
pub lists_one : {X : Type 0} (d : X) (xs ys : List X) → length xs ≡ length ys → ((k : ℕ) → k < length xs → get_or xs k d ≡ get_or ys k d) → xs ≡ ys
lists_one d [] [] long each = refl
lists_one d [] (y ∷ ys) long each = absurd (omega arith)
lists_one d (x ∷ xs) [] long each = absurd (omega arith)
lists_one d (x ∷ xs) (y ∷ ys) long each =
    let head : x ≡ y = each 0 (omega arith) in
    let tail = lists_one d xs ys (omega arith) (λ k below. each (suc k) (omega arith)) in
    cc

module _ (model other : Metadata) (same : SaysSame model other) where
  row_one : (table : TableId) (row : ℕ) → HasRow model table row → row_of model table row ≡ row_of other table row
  row_one table row there =
      lists_one (Number 0) (row_of model table row) (row_of other table row) (same.long table row there) (λ cell_index below. same.cells table row cell_index there below)

  rows_one : (table : TableId) → rows_of model table ≡ rows_of other table
  rows_one table =
      lists_one [] (rows_of model table) (rows_of other table) (same.counts table)
      (λ k below.
      let back : k + 1 - 1 ≡ k = omega arith in
      subst (λ (i : ℕ). get_or (rows_of model table) i [] ≡ get_or (rows_of other table) i []) back (row_one table (k + 1) (omega arith, omega arith)))

  tables_one : model.tables ≡ other.tables
  tables_one =
      lists_one [] model.tables other.tables (same.tables ∙ sym same.other_tables)
      (λ j below.
      subst (λ (i : ℕ). get_or model.tables i [] ≡ get_or other.tables i []) (table_index_at j (omega (arith, same.tables))) (rows_one (table_at j)))

  pub models_one : model ≡ other
  models_one = λ i. record { version = same.version i; user = same.user i; tables = tables_one i }
