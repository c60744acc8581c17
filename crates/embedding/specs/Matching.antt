-- When a root leads into a file: code and data of the file are where its rows name them (ECMA-335 II.22.18, II.22.26,
-- II.24.2.4 and II.25.3.3.2).
use Rattle.std.specs.Prelude.{◌≡◌, ℕ, ◌≤◌, List}
use Rattle.table_schema.specs.declared.table.TableId.{TableId}
use Rattle.table_schema.specs.declared.table.TableId.TheVariants.{MethodDef, File, FieldRVA}
use Rattle.heap_entries.specs.Padding.{zero_padded}
use Rattle.metadata.specs.Source.{number_of}
use Rattle.metadata.specs.SourceAt.{source_of}
use Rattle.opening.specs.Views.{row_count, user_of}

-- both roots have the same number of rows in a table, with the same RVAs
pub record HaveSameAddresses (root other : List ℕ) (table : TableId) : Type 0 where
  pub rows : row_count root table ≡ row_count other table
  pub addresses : (row : ℕ) → 1 ≤ row → row ≤ row_count other table
      → number_of (source_of root) table row 0 ≡ number_of (source_of other) table row 0

-- The root leads to what the other leads to: methods and field data have the same RVAs, and the user strings, which code
-- names by their offsets, are the same. An entry point that is a row of the other is one of the root.
pub record LeadsAlike (root other : List ℕ) : Type 0 where
  pub methods : HaveSameAddresses root other MethodDef
  pub field_data : HaveSameAddresses root other FieldRVA
  pub files : row_count other File ≤ row_count root File
  pub user : zero_padded (user_of root) ≡ zero_padded (user_of other)
