-- The references of a root and of its model have the same numbers.
use Rattle.navigation.proofs.Prelude.{◌≡◌, ◌∙◌, ℕ, ◌<◌, ◌≤◌, ◌==◌, inl, inr, Bool, false, List, refl, sym, ap, arith, TableId, TypeDef, EventMap, PropertyMap, Token, cell_columns, cell_count, column_of, Cell, IsKeyCell, Metadata, cell_in, count_in, Source, number_of, rows_in, source_of, rows_that, cell_of, link_in, number_in, number_to, table_of}
use Rattle.table_schema.specs.declared.column.ColumnKind.TheVariants as kind
use Rattle.metadata.specs.KeyOrder.{key_in, key_number}
use Rattle.metadata.specs.Rows.{IsCell}
use Rattle.metadata.specs.Stands.{Refers}
use Rattle.navigation.specs.declared.links.Link.{Link}
use Rattle.navigation.specs.declared.links.Link.TheVariants as link_of
use Rattle.navigation.specs.Linked.{linked}
use Rattle.navigation.proofs.LinkLemmas.{rows_same}

-- a number in a column of types is that of the reference
of_type : (source : Source) (number : ℕ) (cell : Cell) → Refers source false (record { table = TypeDef; row = number }) cell → number ≡ key_number (kind.Row TypeDef) cell
of_type source number cell (inl (zero, null, is)) = absurd cc
of_type source number cell (inr (there, is)) = rw is refl

module _ (root : List ℕ) (model : Metadata)
    (cells : (table : TableId) (row cell_index : ℕ) → 1 ≤ row → row ≤ rows_in (source_of root) table → cell_index < cell_count table
    → IsCell (source_of root) table row cell_index (cell_in model table row cell_index))
    (keys : (table : TableId) (cell row : ℕ) → IsKeyCell table cell → 1 ≤ row → row ≤ rows_in (source_of root) table
    → number_of (source_of root) table row (column_of table cell) ≡ key_in model table cell row)
    (counted : (table : TableId) → count_in model table ≡ rows_in (source_of root) table) where
  numbers_are_one : (of : Link) (row : ℕ) → 1 ≤ row → row ≤ rows_in (source_of root) (table_of of) → number_in root of row ≡ link_in model of row
  unfolding cell_columns
  numbers_are_one link_of.Events row first last = of_type (source_of root) (number_in root link_of.Events row) (cell_in model EventMap row 0) (cells EventMap row 0 first last (omega arith))
  numbers_are_one link_of.Properties row first last =
      of_type (source_of root) (number_in root link_of.Properties row) (cell_in model PropertyMap row 0) (cells PropertyMap row 0 first last (omega arith))
  numbers_are_one of row first last = keys (table_of of) (cell_of of) row (record { within = omega arith; key = refl }) first last

  -- so the same rows refer to a row
  pub rows_linked : (of : Link) (number : ℕ) (token : Token) → number ≡ number_to of token
      → rows_that (λ row. number_in root of row == number) 1 (rows_in (source_of root) (table_of of)) ≡ linked model of token
  unfolding linked
  rows_linked of number token same =
      let count = rows_in (source_of root) (table_of of) in
      let test : ℕ → Bool = λ row. link_in model of row == number_to of token in
      rows_same (λ row. number_in root of row == number) test 1 count
      (λ row first past. ap (λ n. n == number) (numbers_are_one of row first (omega arith)) ∙ ap (λ n. link_in model of row == n) same)
      ∙ ap (λ n. rows_that test 1 n) (sym (counted (table_of of)))
