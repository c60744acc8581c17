-- What several proofs of this crate name of std, of the crates below, and of its own definitions.
pub use Rattle.std.proofs.Common.{◌≡◌, ℕ, zero, suc, ◌+◌, ◌<◌, ◌≤◌, inl, inr, true, List, [], ◌∷◌, length, refl, sym, ◌∙◌, ap, subst, arith, ◌≢◌, ◌-◌, ◌==◌, ◌↔◌, slice_index_or, Option, Some, None, IfSome, IfNone, Bool, ◌*◌, IsTrue}
pub use Rattle.std.proofs.lemmas.Bool.{cases_Bool, eq-eqb, eqb-true}
pub use Rattle.std.specs.List.Sorted.{IsNonDecreasing, IsStrictlyIncreasing}
pub use Rattle.table_schema.specs.CellColumns.{cell_count, column_of}
unfoldable pub use Rattle.table_schema.specs.CellColumns.{cell_columns}
pub use Rattle.table_schema.specs.declared.column.ColumnKind.{ColumnKind}
pub use Rattle.table_schema.specs.declared.table.TableId.{TableId}
pub use Rattle.rows.specs.Keys.{key_at}
unfoldable pub use Rattle.rows.specs.Keys.{binary_digits}
pub use Rattle.metadata.specs.Cell.{Ref}
pub use Rattle.metadata.specs.KeyOrder.{row_number, key_number, key_in, IsKeyOrdered}
pub use Rattle.metadata.specs.Kinds.{IsOfKind}
pub use Rattle.metadata.specs.Lookups.{IsKeyCell, HasRow, HasKey, HasNames}
pub use Rattle.metadata.specs.Metadata.{Metadata, count_in, cell_in}
pub use Rattle.reading.specs.KeyRows.{rows_with, rows_that}
