-- What several proofs of this crate name of std, of the crates below, and of its own definitions.
pub use Rattle.std.proofs.Common.{◌≡◌, ℕ, ◌-◌, ◌^◌, ◌<◌, false, List, ◌++◌, slice_index, sym, ◌∙◌, subst, arith, inl, inr, zero, suc, ◌+◌, ◌≤◌, [], ◌∷◌, length, get_or, refl, ap, ◌*◌, ◌⊎◌, Bool, true, not, Option, Some, None, ◌%◌, eqb, take, drop, Contains, IsUtf8, IfSome, lit<, length-append, slice_index_or}
pub use Rattle.std.proofs.lemmas.Bool.{cases_eq, cases_lt, not-true, cond_both, eqb-true, cases_Bool}
pub use Rattle.std.proofs.lemmas.List.{get_or-take, get_or-drop, get_or_past, length-take, length-drop, length-replicate}
pub use Rattle.std.proofs.lemmas.Nat.{pow_pos}
pub use Rattle.std.proofs.lemmas.Option.{slice_get_within, slice_get-get_or}
pub use Rattle.std.specs.List.{AllByRecursion, position_or_len}
pub use Rattle.std.specs.Option.{option_map}
pub use Rattle.packed.proofs.RuleLemmas.{all_append, all_prefix, all_back, all_rebased, all_lowered, each_holds, all_of_each}
pub use Rattle.packed.specs.Rule.{AllHold, rebased, Rule, rules_if}
pub use Rattle.root.specs.Streams.{Header, RootRead, named, stream_name}
pub use Rattle.root.specs.declared.kind.Kind.TheVariants.{Tables, UserStrings}
pub use Rattle.heap_entries.specs.Entries.{IsText, IsBlob, IsGuid, HasNoNul}
pub use Rattle.heap_entries.specs.Padding.{zero_padded}
pub use Rattle.table_schema.specs.CellColumns.{is_padding, cell_count, column_of}
unfoldable pub use Rattle.table_schema.specs.CellColumns.{cell_columns}
pub use Rattle.table_schema.specs.CodedIndexes.{tables_of, tag_bits, IsCoded}
pub use Rattle.table_schema.specs.Columns.{columns_of, column_at, key_of, IsReference}
pub use Rattle.table_schema.specs.Tables.{table_index_of, table_number}
unfoldable pub use Rattle.table_schema.specs.Tables.{tables}
pub use Rattle.table_schema.specs.declared.coded.Coded.{Coded}
pub use Rattle.table_schema.specs.declared.column.ColumnKind.{ColumnKind}
pub use Rattle.table_schema.specs.declared.column.SigKind.{SigKind}
pub use Rattle.table_schema.specs.declared.table.TableId.{TableId}
pub use Rattle.table_schema.specs.declared.table.TableId.TheVariants.{Module, TypeDef, Field, NestedClass, Constant}
pub use Rattle.table_schema.specs.declared.token.Token.{Token}
pub use Rattle.schema.specs.Cells.{HoldsCell}
unfoldable pub use Rattle.schema.specs.Cells.{numbers_at}
pub use Rattle.schema.specs.LaidOut.{IsLaidOut, IsTableStream}
pub use Rattle.schema.specs.Sizes.{Sizes, count_of, kind_width, width_of}
pub use Rattle.sig_grammar.specs.Encodes.{Encodes, IsEncodable, tokens}
pub use Rattle.sig_grammar.specs.Parts.{is_table}
pub use Rattle.sig_grammar.specs.Syntax.{Body}
pub use Rattle.metadata.specs.Cell.{Cell, Number, Text, Bytes, Guid, Ref, Start, Sig, start_in}
pub use Rattle.metadata.specs.KeyOrder.{key_number, key_in, IsKeyOrdered, row_number}
pub use Rattle.metadata.specs.Kinds.{IsOfKind, IsTo, IsHeld}
pub use Rattle.metadata.specs.Lookups.{IsKeyCell, HasRow}
pub use Rattle.metadata.specs.Metadata.{Metadata, count_in, cell_in, rows_of, row_of}
pub use Rattle.metadata.specs.Model.{IsModel, IsEntryPoint, has_native_entry_point, IsModelOfFile}
pub use Rattle.metadata.specs.RowRules.{IsInOrder, AreByKey, is_said_sorted, IsByKey}
pub use Rattle.metadata.specs.declared.member_lists.MemberList.{MemberList}
pub use Rattle.metadata.specs.MemberLists.{owner_of, cell_of, member_of}
pub use Rattle.metadata.specs.Links.{Links, links_in, IsOwned, IsNested, AreLinked}
pub use Rattle.metadata.specs.LinkRules.{Checked}
unfoldable pub use Rattle.metadata.specs.LinkRules.{rules_of_start, rules_of_run, rules_of_runs, rules_of_nesting_in, rules_of_nesting, rules_of_links}
pub use Rattle.metadata.specs.Rows.{AreFrom, IsCell, AreTables, table_at, StandsIn}
unfoldable pub use Rattle.metadata.specs.Rows.{IsRow, IsTable, IsTableAt}
pub use Rattle.metadata.specs.Rules.{rules_of_order_by, in_place, MayRefer, rules_of_number, rules_of_encoding}
unfoldable pub use Rattle.metadata.specs.Rules.{rules_of_metadata, rules_of_entry_point, rules_of_file, rules_of_cells, rules_of_order, rules_of_rows, rules_of_signatures, rules_of_tables, rules_of_key_in, rules_of_keys, rules_of_order_at, rules_of_cell, rules_of_row, rules_of_table, rules_of_table_at, rules_of_signature, rules_of_signatures_in, rules_of_signatures_of, rules_of_signatures_at}
pub use Rattle.metadata.specs.Source.{rows_in, Source, IsThere}
unfoldable pub use Rattle.metadata.specs.Source.{number_of}
pub use Rattle.metadata.specs.SourceAt.{source_of, SourceAt, tables_in, tables_offset, source_at}
unfoldable pub use Rattle.metadata.specs.SourceAt.{cell_offset}
pub use Rattle.metadata.specs.Stands.{StandsFor, Refers}
pub use Rattle.metadata.specs.Starts.{start_from}
unfoldable pub use Rattle.metadata.specs.Starts.{start_of}
pub use Rattle.metadata.specs.Streams.{root_in, stream_in, source_in}
pub use Rattle.metadata.specs.Valid.{kind_at, IsValidAt, links_of, IsValid, Names, IsWithinMembers, IsValidCell, row_in}
