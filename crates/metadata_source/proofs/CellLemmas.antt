-- The key of a table has one cell.
use Rattle.metadata_source.proofs.Prelude.{◌≡◌, ℕ, zero, suc, ◌+◌, ◌<◌, refl, sym, ◌∙◌, ap, arith, TableId, cell_columns, cell_count, column_of, IsKeyCell}
use Rattle.std.specs.Prelude.{◌/◌}
use Rattle.std.proofs.lemmas.Option.{same_Some}
use Rattle.table_schema.specs.declared.table.TableId.TheVariants.{Constant}
use Rattle.table_schema.proofs.CellColumnLemmas.{same_column}

-- the columns of the cells of Constant are 0, 2 and 3
constant_cell : (a : ℕ) → a < 3 → a ≡ (column_of Constant a + 1) / 2
unfolding cell_columns
constant_cell zero below = refl
constant_cell (suc zero) below = refl
constant_cell (suc (suc zero)) below = refl
constant_cell (suc (suc (suc a))) below = absurd (omega arith)

-- a column has one cell at most
cells_one : (table : TableId) (a b : ℕ) → a < cell_count table → b < cell_count table → column_of table a ≡ column_of table b → a ≡ b
unfolding cell_columns
cells_one Constant a b low high same = constant_cell a low ∙ ap (λ c. (c + 1) / 2) same ∙ sym (constant_cell b high)
cells_one table a b low high same = (same_column table (λ e. cc) a low).0 ∙ same ∙ sym (same_column table (λ e. cc) b high).0

pub key_is_one : (table : TableId) (a b : ℕ) → IsKeyCell table a → IsKeyCell table b → a ≡ b
key_is_one table a b one other = cells_one table a b one.within other.within (same_Some _ _ (sym one.key ∙ other.key))
