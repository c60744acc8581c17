-- What several proofs of this crate name of std, of the crates below, and of the definitions that many proofs cite.
pub use Rattle.std.proofs.Common.{◌≡◌, ℕ, ◌<◌, ◌^◌, All, Contains, List, [], ◌∷◌, ◌++◌, length, map, refl, sym, ap, subst, ◌∙◌, arith, ◌+◌, ◌≤◌, inl, inr, false, cond, get_or, drop, length-drop, Option, ◌-◌, Bool, true, Some, None, append_assoc, append-nil, length-append, nat_eq, true≢false, not, ◌&&◌, filter, ⊎_elim, zero, suc, take, ◌*◌, Err, ◌≢◌, rules, ◌↔◌}
pub use Rattle.std.proofs.Math.Nat.{lt_of_not-le}
pub use Rattle.std.proofs.Math.Path.{fun_ext}
pub use Rattle.std.proofs.lemmas.Bool.{cases_lt, cond_both}
pub use Rattle.std.proofs.lemmas.Grind.{not_there}
pub use Rattle.std.proofs.lemmas.List.{map_push, get_or_append_left, get_or_push, length_push, get_or-map, drop_more, drop_all, drop_at, drop-drop, ext_get_or, get_or-drop, length-map, map-append, nil_from_length, take_more, take_all, get_or_read, take-append-drop}
pub use Rattle.std.proofs.lemmas.List.Concat.{flat_map-append}
pub use Rattle.std.proofs.lemmas.List.Elements.{All-push, All-nil, All-weaker, All-head, All-tail, Contains-get_or, All-from_get_or, recursion_from_All, All-take, All-get_or}
pub use Rattle.std.proofs.lemmas.Result.{on_ok_weaker, err_from_is_err_and}
pub use Rattle.std.specs.Borrow.{Bor}
pub use Rattle.std.specs.List.{AllByRecursion, list_any, AllZip}
pub use Rattle.std.specs.Prelude.{slice_index, flat_map, IfSome, unwrap_or, IfOk}
pub use Rattle.cell_numbering.specs.BlobBytes.{AreWritten, all_bytes, bytes_at, bytes_in, AreWrittenAs}
pub use Rattle.cell_numbering.specs.HeapUses.{IsUseIn, IsInNoHeap, guid_of, AreIndexes, all_cells, AreUsesIn, GivesBlob, IsUseOf}
pub use Rattle.cell_numbering.specs.NumbersSoFar.{SoFar, with_cell, with_next_cell, with_row, with_rows, with_tables, no_pools, with_blob, with_guid, with_number, with_text, none_numbered}
pub use Rattle.cell_numbering.specs.declared.blob_use.BlobUse.{BlobUse}
pub use Rattle.heap_entries.specs.Entries.{IsBlob, IsText, HasNoNul}
pub use Rattle.heap_pools.specs.BlobHeap.{blob_index, blob_heap}
pub use Rattle.heap_pools.specs.Distinct.{distinct, pooled, first_uses, is_among}
pub use Rattle.heap_pools.specs.GuidHeap.{guid_index, given, guid_heap}
pub use Rattle.heap_pools.specs.HeapTexts.{heap_text, texts_at}
pub use Rattle.heap_pools.specs.Ranking.{HasText, IsFirstUse, used_at}
unfoldable pub use Rattle.heap_pools.specs.TextHeap.{is_holder}
pub use Rattle.heap_pools.specs.TextHeap.{text_index, holders, text_heap}
pub use Rattle.heap_pools.specs.Uses.{bytes_of}
pub use Rattle.heap_pools.specs.declared.pool_error.PoolError.TheVariants.{Full}
pub use Rattle.heaps.specs.EqualBlobs.{IsSameBlob, AreEarlierBlobs}
pub use Rattle.heaps.specs.HeapPlanView.{AreFirsts}
pub use Rattle.metadata.specs.Cell.{Cell, Number, Text, Bytes, Guid, Ref, Start, Sig}
pub use Rattle.metadata.specs.Kinds.{IsOfKind}
pub use Rattle.metadata.specs.Lookups.{HasRow}
pub use Rattle.metadata.specs.Metadata.{Metadata, rows_of, cell_in, row_of}
pub use Rattle.metadata.specs.Valid.{kind_at, IsValid}
pub use Rattle.metadata_source.specs.ColumnNumbers.{IsNumberOf, AreIndexesIn}
pub use Rattle.metadata_source.specs.SharedBlobs.{CellId, HasCell, cell_by_id, kind_by_id, IsBlobKind, ShareBlob}
pub use Rattle.reading.specs.Shown.{Shows, ShowsSignature}
pub use Rattle.reading.specs.declared.cell_ref.CellRef.{CellRef}
pub use Rattle.root_writer.specs.Numbered.{flat, CanBeNumbered}
unfoldable pub use Rattle.root_writer.specs.Numbers.{numbers}
pub use Rattle.root_writer.specs.Numbers.{cell_number, with_next, numbers_of, table_numbers}
unfoldable pub use Rattle.root_writer.specs.Pools.{used}
pub use Rattle.root_writer.specs.Pools.{blobs_of, texts_of, Pools, pools_of, guids_of}
pub use Rattle.rows.specs.Columns.{ColumnBytes, number_in_row}
unfoldable pub use Rattle.table_schema.specs.CellColumns.{cell_columns}
pub use Rattle.table_schema.specs.CellColumns.{is_padding, indexes_from, cell_count, column_of}
pub use Rattle.table_schema.specs.Columns.{columns_of, column_at, col}
unfoldable pub use Rattle.table_schema.specs.Tables.{tables}
pub use Rattle.table_schema.specs.Tables.{table_index_of}
pub use Rattle.table_schema.specs.declared.column.Column.{Column}
pub use Rattle.table_schema.specs.declared.column.ColumnKind.{ColumnKind}
pub use Rattle.table_schema.specs.declared.column.SigKind.{SigKind}
pub use Rattle.table_schema.specs.declared.table.TableId.{TableId}
pub use Rattle.table_schema.specs.declared.table.TableId.TheVariants.{Module}
