-- What several proofs of this crate name of std, of the crates below, and of its own definitions.
pub use Rattle.std.proofs.Common.{◌≡◌, ◌≤◌, ◌<◌, ℕ, ◌*◌, ◌^◌, Bool, Some, length, inl, inr, sym, ap, subst, ◌∙◌, arith, ◌+◌, List, ◌++◌, Result, Ok, Err, refl, append_assoc, IfOk, IsErrOf, IsOkAnd, rules, [], Option, None, IfSome, unwrap_or, false, IsTrue, ◌↔◌, slice_index_or, is_some, true, ◌-◌, slice_index}
pub use Rattle.std.proofs.lemmas.Grind.{not_there, merely}
pub use Rattle.std.proofs.lemmas.Result.{err_from_is_err_and}
unfoldable pub use Rattle.std.specs.Str.{is_utf8}
pub use Rattle.packed.proofs.RuleLemmas.{all_append, all_prefix, all_back, fails_prefix, fails_back, none_fails, fails_rebased, all_rebased}
pub use Rattle.packed.specs.Rule.{Rule, AllHold, FirstBroken, Reports, rebased}
pub use Rattle.packed.specs.declared.fault.Fault.{Fault}
pub use Rattle.root.specs.Fields.{root_read}
pub use Rattle.root.specs.Rules.{rules_of_root}
pub use Rattle.root.specs.declared.kind.Kind.TheVariants.{Strings, Guids, Blobs, Tables, UserStrings}
pub use Rattle.cli_header.specs.Said.{header_of}
pub use Rattle.cli_header.specs.declared.header.CliHeader.{CliHeader}
pub use Rattle.heap_entries.specs.Entries.{IsBlob, IsText}
pub use Rattle.table_schema.specs.CellColumns.{cell_count, column_of}
pub use Rattle.table_schema.specs.Columns.{column_at, key_of}
pub use Rattle.table_schema.specs.declared.column.ColumnKind.{ColumnKind}
pub use Rattle.table_schema.specs.declared.table.TableId.{TableId}
unfoldable pub use Rattle.schema.specs.Cells.{numbers_at}
pub use Rattle.schema.specs.Rules.{rules_of_stream}
pub use Rattle.schema.specs.Sizes.{Sizes, count_of}
pub use Rattle.metadata.specs.Cell.{Cell, Start}
pub use Rattle.metadata.specs.KeyOrder.{row_number, IsKeyOrdered}
pub use Rattle.metadata.specs.Metadata.{Metadata, count_in, cell_in}
pub use Rattle.metadata.specs.Model.{IsModel, IsModelOfFile}
pub use Rattle.metadata.specs.Rows.{IsCell, StandsIn}
unfoldable pub use Rattle.metadata.specs.Rules.{rules_of_tables, rules_of_metadata, rules_of_entry_point, rules_of_file}
pub use Rattle.metadata.specs.Source.{Source, rows_in}
unfoldable pub use Rattle.metadata.specs.Source.{number_of}
pub use Rattle.metadata.specs.SourceAt.{SourceAt, source_of, tables_in, tables_offset, source_at}
pub use Rattle.metadata.specs.Stands.{Refers, StandsFor}
unfoldable pub use Rattle.metadata.specs.Starts.{start_of}
pub use Rattle.metadata.specs.Streams.{root_in, stream_in}
pub use Rattle.metadata.specs.Valid.{row_in, nullable_at, kind_at}
pub use Rattle.reading.specs.KnownStarts.{AreKnown}
pub use Rattle.reading.specs.Shown.{Shows, ShowsBlob}
pub use Rattle.reading.specs.declared.cell_ref.CellRef.{CellRef}
pub use Rattle.metadata_source.specs.ColumnNumbers.{IsCodedNumber, IsNumberOf}
pub use Rattle.metadata_source.specs.SharedBlobs.{CellId, IsBlobKind, ShareBlob, kind_by_id, cell_by_id}
pub use Rattle.row_order.specs.Orders.{ReportsOrder}
pub use Rattle.checks.specs.Budgets.{IsBelow}
pub use Rattle.checks.specs.Within.{FailsWithin, IsSpent, TextsSpend, counted_bytes}
pub use Rattle.checks.specs.declared.budget.BoundedError.{BoundedError}
pub use Rattle.checks.specs.declared.budget.BoundedError.TheVariants.{BudgetSpent}
pub use Rattle.checks.specs.declared.budget.Budget.{Budget}
pub use Rattle.opening.specs.BeforeCells.{rules_of_tables_in, root_of_file, root_start, source_of_file}
unfoldable pub use Rattle.opening.specs.BeforeCells.{rules_before_cells, rules_before_cells_of_file}
pub use Rattle.opening.specs.Views.{HasModel, HasImage, AreFound}
unfoldable pub use Rattle.opening.specs.Views.{row_count, user_of}
pub use Rattle.opening.specs.Within.{IsSpentIn, IsSpentInFile, TextsSpendIn, TextsSpendInFile, counted_bytes_in, Left}
