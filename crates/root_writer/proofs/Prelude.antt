-- What several proofs of this crate name of std, of the crates below, and of the definitions that many proofs cite.
pub use Rattle.std.proofs.Common.{◌≡◌, ℕ, ◌+◌, ◌<◌, ◌≤◌, Bool, List, [], ◌∷◌, ◌++◌, length, get_or, drop, cond, ltb, refl, ap, sym, ◌∙◌, arith, ◌-◌, ◌*◌, ◌^◌, true, All, Contains, IsUtf8, ◌⊎◌, Some, map, take, length-append, lit≤, filter, false, set, append_assoc, zero, suc, Option, None, IfSome, subst, inl, inr, ⊎_elim, ◌%◌, eqb, leb, ◌≢◌, not, ◌&&◌, true≢false, rules, codes, replicate, ◌/◌, length-drop}
pub use Rattle.std.proofs.Math.Nat.{mod-eq_of_lt, one-le-pow, mul-le-mul_left, mul-le-mul_right}
pub use Rattle.std.proofs.Math.Path.{fun_ext}
pub use Rattle.std.proofs.lemmas.Bool.{cond_both, cases_lt, ltb-true, and_parts, and_from, cases_Bool, false≢true, or_parts, not-true, not_from_false, leb-false}
pub use Rattle.std.proofs.lemmas.Bool.Decides.{nat_tests}
pub use Rattle.std.proofs.lemmas.List.{drop_all, get_or-map, length-map, drop_more, take_more_set, append-nil, nil_from_length, length-set}
pub use Rattle.std.proofs.lemmas.List.Elements.{All-from_get_or, recursion_from_All, All-from_recursion}
pub use Rattle.std.proofs.lemmas.List.Sums.{sum_by-drop_more, sum_by-cons}
pub use Rattle.std.proofs.lemmas.Nat.{pow_pos, mul-add-lt}
pub use Rattle.std.specs.List.{AllByRecursion, flat_map, position_or_len, list_any, count_by, list_all}
pub use Rattle.std.specs.Prelude.{sum_by, slice_index, slice_get, bytes_eq, IsSome, unwrap_or}
pub use Rattle.heap_entries.specs.Entries.{HasNoNul, IsBlob, IsGuid, IsText}
pub use Rattle.heap_entries.specs.Padding.{zero_padded}
unfoldable pub use Rattle.heap_pools.specs.BlobHeap.{counted}
pub use Rattle.heap_pools.specs.BlobHeap.{blob_index}
pub use Rattle.heap_pools.specs.Distinct.{distinct, is_among, first_uses}
pub use Rattle.heap_pools.specs.GuidHeap.{guid_index}
unfoldable pub use Rattle.heap_pools.specs.TextHeap.{is_holder}
pub use Rattle.heap_pools.specs.TextHeap.{text_index}
pub use Rattle.metadata.specs.Cell.{Cell, Number, Text, Bytes, Guid, Ref, Start, Sig, start_in}
pub use Rattle.metadata.specs.Lookups.{IsKeyCell, HasRow}
pub use Rattle.metadata.specs.Metadata.{Metadata, count_in, rows_of, row_of, cell_in}
pub use Rattle.metadata.specs.Model.{IsModel}
pub use Rattle.metadata.specs.RowRules.{is_said_sorted, IsByKey, AreByKey}
pub use Rattle.metadata.specs.declared.member_lists.MemberList.{MemberList}
pub use Rattle.metadata.specs.MemberLists.{owner_of, cell_of, member_of}
pub use Rattle.metadata.specs.Links.{links_in, IsOwned, AreLinked}
unfoldable pub use Rattle.metadata.specs.Rows.{IsRow, IsTable, IsTableAt}
pub use Rattle.metadata.specs.Rows.{table_at, AreFrom, IsCell, AreTables}
unfoldable pub use Rattle.metadata.specs.Source.{number_of}
pub use Rattle.metadata.specs.Source.{Source, IsThere, rows_in}
pub use Rattle.metadata.specs.Stands.{StandsFor, Refers}
unfoldable pub use Rattle.metadata.specs.Starts.{start_of}
pub use Rattle.metadata.specs.Starts.{start_from}
pub use Rattle.metadata.specs.Valid.{IsValid, row_in, IsValidCell, kind_at, nullable_at, links_of}
pub use Rattle.packed.specs.Number.{IsNumber}
pub use Rattle.root.specs.Root.{IsStreamName, IsHeader, AreHeaders, AllMeet, signature, IsVersion, IsRoot}
pub use Rattle.root.specs.Streams.{stream_name, Header, named}
pub use Rattle.root.specs.declared.kind.Kind.{Kind}
pub use Rattle.root.specs.declared.kind.Kind.TheVariants.{Tables, Strings, UserStrings, Guids, Blobs}
unfoldable pub use Rattle.root_writer.specs.Canonical.{root_of, streams_of}
pub use Rattle.root_writer.specs.Canonical.{ended, prefix, directory, stream, stream_header, first_offset, canonical}
pub use Rattle.root_writer.specs.Heading.{header_length, sized_header, sized_directory, heading_size, heading, kinds_in_order, size_of, held}
unfoldable pub use Rattle.root_writer.specs.Numbers.{numbers}
pub use Rattle.root_writer.specs.Numbers.{cell_number, numbers_of, table_numbers, numbers_by, with_next}
unfoldable pub use Rattle.root_writer.specs.Pools.{used}
pub use Rattle.root_writer.specs.Pools.{Pools, pools_of, texts_of, blobs_of, guids_of, texts_stream, blobs_stream, guids_stream}
unfoldable pub use Rattle.root_writer.specs.TableStream.{sizes_of, header_bytes, table_stream}
pub use Rattle.root_writer.specs.TableStream.{has_rows, rises, is_by_key, table_keys, is_sorted, wide_bit}
pub use Rattle.root_writer.specs.Written.{Written, Puts}
unfoldable pub use Rattle.schema.specs.LaidOut.{bits_of}
pub use Rattle.schema.specs.LaidOut.{number_bytes, counts_bytes, row_bytes, fields_of, rows_bytes, tables_bytes, FitRows, FitTables, number_in, IsLaidOut}
pub use Rattle.schema.specs.Sizes.{Sizes, count_of, kind_width, row_index_width, coded_width, width_of, narrow_or_wide, heap_width, header_size, is_below}
pub use Rattle.sig_grammar.specs.Encodes.{Holds, Encodes, IsEncodable, short, tokens}
pub use Rattle.sig_grammar.specs.Parts.{is_table}
pub use Rattle.sig_grammar.specs.Syntax.{Body}
unfoldable pub use Rattle.table_schema.specs.CellColumns.{cell_columns}
pub use Rattle.table_schema.specs.CellColumns.{cell_count, column_of, is_padding, indexes_from}
pub use Rattle.table_schema.specs.CodedIndexes.{tables_of, tag_bits, IsCoded}
pub use Rattle.table_schema.specs.Columns.{columns_of, column_at, key_of, IsReference, MayBeNull, col}
unfoldable pub use Rattle.table_schema.specs.Tables.{tables}
pub use Rattle.table_schema.specs.Tables.{table_index_of}
pub use Rattle.table_schema.specs.declared.coded.Coded.{Coded}
pub use Rattle.table_schema.specs.declared.column.Column.{Column}
pub use Rattle.table_schema.specs.declared.column.ColumnKind.{ColumnKind}
pub use Rattle.table_schema.specs.declared.table.TableId.{TableId}
pub use Rattle.table_schema.specs.declared.table.TableId.TheVariants.{Module, TypeDef, TypeRef, Field, MethodDef, Constant, Assembly, PropertyMap, EventMap}
pub use Rattle.table_schema.specs.declared.token.Token.{Token}
