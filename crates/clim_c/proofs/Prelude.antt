-- What several proofs of this crate name of std, of the crates below, and of its own definitions.
pub use Rattle.std.proofs.Common.{◌≡◌, ◌∙◌, List, [], ◌∷◌, ◌++◌, length, take, Option, slice_get, refl, sym, ap, subst, arith, ℕ, ◌<◌, Some, None, IsUtf8, zero, suc, ◌+◌, ◌≤◌, ◌⊎◌, inl, inr, Bor, get_or, set, append_assoc, slice_index_or, rules, option_map, ◌^◌}
pub use Rattle.std.proofs.lemmas.List.{length-append, append-nil, length-take-le, take_all, take_at, take_more_set, get_or-set_same, get_or-set_other, length-set}
pub use Rattle.std.proofs.lemmas.Option.{same_Some}
pub use Rattle.std.specs.List.{SameFrom}
pub use Rattle.std.proofs.lemmas.Iterator.Consumers.{YieldsList-from_first, nth_from_yields_List, count_from_yields_List}
pub use Rattle.std.proofs.lemmas.Grind.{not_there}
pub use Rattle.root.specs.Streams.{Header}
pub use Rattle.root.specs.Views.{view}
pub use Rattle.table_schema.specs.CellColumns.{column_of}
unfoldable pub use Rattle.table_schema.specs.CellColumns.{cell_columns}
pub use Rattle.table_schema.specs.Columns.{column_at}
pub use Rattle.table_schema.specs.declared.column.ColumnKind.{ColumnKind}
pub use Rattle.table_schema.specs.declared.table.TableId.TheVariants.{TypeDef}
pub use Rattle.sig_grammar.specs.Syntax.{Body}
pub use Rattle.metadata.specs.Cell.{Cell, Sig}
pub use Rattle.metadata.specs.Metadata.{Metadata, cell_in}
pub use Rattle.metadata.specs.Model.{IsModel}
pub use Rattle.reading.specs.Shown.{Shows}
pub use Rattle.reading.specs.declared.cell_ref.CellRef.{CellRef}
unfoldable pub use Rattle.opening.specs.Views.{row_count}
pub use Rattle.root_writer.specs.Canonical.{canonical}
unfoldable pub use Rattle.root_writer.specs.Canonical.{root_of}
pub use Rattle.comparison.specs.declared.difference.Difference.{Difference}
pub use Rattle.c_values.specs.declared.cell.ClimCell.{ClimCell}
pub use Rattle.clim_c.specs.Reported.{ReportsCell}
