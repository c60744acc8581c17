-- What several proofs of this crate name of std, of the crates below, and of its own definitions.
pub use Rattle.std.proofs.Common.{◌≡◌, ◌≤◌, length, take, ◌∙◌, ap, sym, arith, refl, ℕ, ◌<◌, ◌≢◌, get_or, ◌+◌, subst, ◌↔◌, inl, inr, zero, suc, ◌-◌, ◌*◌, ◌==◌, Bool, true, false, IsTrue, List, [], ◌∷◌, ap₂, cond, ◌||◌, ◌++◌, All, length-append, min, Some, None, Result, Option, append_assoc, append-nil, ◌⊎◌, lit≤, set, replicate, drop, take_at, drop_at, not, eqb, slice_index, length-drop, below_more}
pub use Rattle.std.proofs.lemmas.Bool.{both_ways, cases_eq, cases_lt, cond-true, eq-eqb, ne_eqb, not-false}
pub use Rattle.std.proofs.lemmas.Bool.Decides.{Decides-eqb, Decides-like, same_from_decides}
pub use Rattle.std.proofs.lemmas.Grind.{flat_map-append}
pub use Rattle.std.proofs.lemmas.List.{take_all, take-append-le, get_or-set_other, take-append-drop, drop-drop, drop-take, get_or-drop, nil_from_length, take_more, flat_map_more, map-id}
pub use Rattle.std.proofs.lemmas.List.FromFn.{map-range_with_len_more, get_or-range_with_len, length-range_with_len}
pub use Rattle.std.proofs.lemmas.Option.{IfSome_then}
pub use Rattle.std.proofs.lemmas.Result.{IfOk-weaker, on_ok_weaker}
pub use Rattle.std.proofs.lemmas.Slice.Eq.{bytes_eq-Decides, slice_eq-Decides}
pub use Rattle.std.specs.Bool.{Decides}
pub use Rattle.std.specs.List.{AllByRecursion, flat_map, range_with_len}
pub use Rattle.std.specs.Prelude.{IfOk, IfSome, bytes_eq, sum_by}
pub use Rattle.std.proofs.lemmas.List.Elements.{All-push}
pub use Rattle.heap_entries.specs.Entries.{IsText, IsBlob, IsGuid, IsCounted}
pub use Rattle.heap_entries.proofs.BlobLemmas.{blob_counted, counted_behind}
pub use Rattle.table_schema.specs.CellColumns.{cell_count, column_of}
unfoldable pub use Rattle.table_schema.specs.CellColumns.{cell_columns}
pub use Rattle.table_schema.specs.Columns.{column_at, columns_of}
pub use Rattle.table_schema.specs.Tables.{table_index_of, table_number}
unfoldable pub use Rattle.table_schema.specs.Tables.{tables}
pub use Rattle.table_schema.specs.declared.column.Column.{Column}
pub use Rattle.table_schema.specs.declared.column.ColumnKind.{ColumnKind}
pub use Rattle.table_schema.specs.declared.column.SigKind.{SigKind}
pub use Rattle.table_schema.specs.declared.table.TableId.{TableId}
pub use Rattle.table_schema.specs.declared.table.TableId.TheVariants.{Module}
pub use Rattle.table_schema.specs.declared.token.Token.{Token}
pub use Rattle.schema.specs.Sizes.{Sizes, SameCounts, width_of}
pub use Rattle.sig_grammar.specs.Encodes.{tokens, Encodes, Holds, IsEncodable, short}
pub use Rattle.sig_grammar.specs.Syntax.{Body}
pub use Rattle.metadata.specs.Metadata.{Metadata, cell_in, count_in}
pub use Rattle.metadata.specs.Model.{IsModel}
pub use Rattle.metadata.specs.Rows.{IsCell}
pub use Rattle.metadata.specs.Source.{Source, rows_in}
unfoldable pub use Rattle.metadata.specs.Source.{number_of}
pub use Rattle.metadata.specs.SourceAt.{source_of}
pub use Rattle.metadata.specs.Stands.{Refers, StandsFor}
pub use Rattle.metadata.specs.Starts.{start_from}
unfoldable pub use Rattle.metadata.specs.Starts.{start_of}
pub use Rattle.metadata.specs.Valid.{kind_at, IsValid}
pub use Rattle.metadata.specs.Cell.{Cell, Start, Number, Text, Bytes, Guid, Ref, Sig}
pub use Rattle.reading.specs.Shown.{Shows, ShowsSignature}
pub use Rattle.reading.specs.declared.cell_ref.CellRef.{CellRef}
unfoldable pub use Rattle.opening.specs.Views.{row_count}
pub use Rattle.comparison.specs.Alike.{AreAlike, AreSameParts, HaveSameHeap, HaveSameNumbers, has_same_heap}
pub use Rattle.comparison.specs.BlobNames.{AreSameBlobs}
pub use Rattle.comparison.specs.ComparedCells.{AreOutcomes, IsInBoth, IsInHeap, IsNoted, IsOutcome, key_cmp, outcome_at}
pub use Rattle.comparison.specs.Differences.{cell_difference, count_difference, user_difference, version_difference, IsThere}
unfoldable pub use Rattle.comparison.specs.Differences.{row_differences, table_differences, cell_differences_but, first_differences_but, outline_differences}
pub use Rattle.comparison.specs.Ignored.{AreOthersSame}
unfoldable pub use Rattle.comparison.specs.Ignored.{is_ignored, no_columns}
pub use Rattle.comparison.specs.Progress.{Extends, IsProgress}
pub use Rattle.comparison.specs.SameCells.{is_same_cell, AreSignatures}
pub use Rattle.comparison.specs.declared.cells.Comparison.{Comparison}
pub use Rattle.comparison.specs.declared.cells.Progress.{Progress}
pub use Rattle.comparison.specs.declared.compared_cells.Outcome.{Outcome}
pub use Rattle.comparison.specs.declared.difference.Difference.{Difference}
pub use Rattle.comparison.specs.declared.difference.Difference.TheVariants.{Version, UserStrings, RowCount}
pub use Rattle.comparison.specs.declared.ignored.IgnoredColumns.{IgnoredColumns}
