-- What several proofs of this crate name of std, of the crates below, and of its own definitions.
pub use Rattle.std.proofs.Common.{◌≡◌, ◌≢◌, ℕ, zero, suc, ◌-◌, ◌<◌, ◌≤◌, List, [], ◌∷◌, ◌++◌, length, take, drop, slice_index, Option, Some, None, inl, inr, refl, sym, ap, subst, ◌∙◌, arith, length-drop, ◌+◌, get_or, false, true, Result, Ok, Err, is_err, ◌*◌, ◌/◌, ◌%◌, ◌^◌, Bool, replicate, slice_set, ◌⊎◌, cond, nat_eq, nat_lt, add-one, eq-eqb, rules}
pub use Rattle.std.proofs.lemmas.Bool.{cases_eq, eqb-true, false≢true, cases_lt}
pub use Rattle.std.proofs.lemmas.Bool.Decides.{nat_tests}
pub use Rattle.std.proofs.lemmas.List.{get_or-drop, take-append-drop, length-take-le, drop_more, get_or-take, take_at, get_or_append_left, get_or-replicate, get_or-set_other, get_or_past, length-replicate, drop-drop, length-set, take_min}
pub use Rattle.std.proofs.lemmas.List.Elements.{All-append, All-drop, All-from_get_or}
pub use Rattle.std.proofs.lemmas.Nat.{div-add-mod', mod_below, mul-le}
pub use Rattle.std.proofs.lemmas.Option.{same_Some, slice_get-get_or}
pub use Rattle.std.proofs.lemmas.Result.{err_from_is_err_and}
pub use Rattle.std.proofs.lemmas.Str.{IsUtf8-from_ascii, IsAscii-drop, IsAscii-take, IsUtf8-drop, IsUtf8-take, IsCharBoundary-from_drop, IsCharBoundary-at_seam, IsUtf8-append}
pub use Rattle.std.specs.Prelude.{unwrap_or, nat_le, slice_get}
pub use Rattle.std.specs.Str.{IsAscii}
unfoldable pub use Rattle.std.specs.Str.{is_utf8}
pub use Rattle.memchr.specs.Find.{IsLastByte, is_byte, IsFirstByte}
pub use Rattle.packed.proofs.RuleLemmas.{none_fails, before_fails, all_of_each, each_holds, all_append, fails_prefix, fails_back, before_more, before_all, before_none}
pub use Rattle.packed.specs.Packed.{IsPacked}
pub use Rattle.packed.specs.Rule.{AllHold, Rule, FirstBroken, Reports, HoldBefore, fault}
unfoldable pub use Rattle.packed.specs.Rule.{rules_from}
pub use Rattle.packed.specs.declared.code.FaultCode.{FaultCode}
pub use Rattle.packed.specs.declared.code.FaultCode.TheVariants.{BadSignature, SignatureIndex}
pub use Rattle.heap_entries.specs.Entries.{IsEnded, IsText, HasNoNul, IsCounted, IsBlob}
pub use Rattle.heap_entries.specs.Rules.{rules_of_text, code_of, at_offset}
pub use Rattle.heap_entries.specs.declared.fault.HeapFault.{HeapFault}
pub use Rattle.table_schema.specs.Columns.{columns_of, column_at}
pub use Rattle.table_schema.specs.declared.column.Column.{Column}
pub use Rattle.table_schema.specs.declared.column.ColumnKind.{ColumnKind}
pub use Rattle.table_schema.specs.declared.column.SigKind.{SigKind}
pub use Rattle.table_schema.specs.declared.table.TableId.{TableId}
pub use Rattle.table_schema.specs.declared.table.TableId.TheVariants.{Module}
pub use Rattle.table_schema.specs.declared.token.Token.{Token}
pub use Rattle.metadata.specs.Rows.{table_at}
pub use Rattle.metadata.specs.Rules.{MayRefer, rules_of_number, rules_of_encoding}
unfoldable pub use Rattle.metadata.specs.Rules.{rules_of_cells, rules_of_table, rules_of_table_at, rules_of_row, rules_of_cell, rules_of_signature, rules_of_signatures_in, rules_of_rows, rules_of_signatures, rules_of_tables, rules_of_signatures_of, rules_of_signatures_at}
pub use Rattle.metadata.specs.Source.{rows_in, Source}
unfoldable pub use Rattle.metadata.specs.Source.{number_of}
pub use Rattle.metadata.specs.SourceAt.{SourceAt}
unfoldable pub use Rattle.metadata.specs.SourceAt.{cell_offset}
pub use Rattle.reading.specs.Codes.{code_at}
pub use Rattle.checks.specs.Broken.{IsBroken, bytes_before_in}
pub use Rattle.checks.specs.Budgets.{IsBelow, Takes, Spends}
pub use Rattle.checks.specs.CodedLimits.{IsLimit, AreLimits}
pub use Rattle.checks.specs.Columns.{AllPass, IsNotEncoded, ColumnMeets, ColumnStands, ColumnEncodes, IsEncoded}
pub use Rattle.checks.specs.Passed.{Keeps, no_slots, Slots, is_kept, keep}
pub use Rattle.checks.specs.Signatures.{blob_length}
unfoldable pub use Rattle.checks.specs.Signatures.{sum_below, counted_length, cell_bytes, column_bytes, table_bytes, table_bytes_at, signature_bytes}
pub use Rattle.checks.specs.TextBytes.{text_length, counted_text, rows_text_bytes, bytes_before_nul}
unfoldable pub use Rattle.checks.specs.TextBytes.{cell_text_bytes, row_text_bytes, table_text_bytes, text_bytes, text_bytes_to}
pub use Rattle.checks.specs.Texts.{HasTextsTo, Reaches, AreStarts}
pub use Rattle.checks.specs.Walks.{Walk, walk_one, number_after, walked_bytes, walked_in, StopsAt}
unfoldable pub use Rattle.checks.specs.Walks.{walk_over, column_walked, table_walked, table_walked_at, walked_signature_bytes}
pub use Rattle.checks.specs.Within.{RowsSpend, TextsSpend, FailsWithin, IsSpent, counted_bytes}
pub use Rattle.checks.specs.declared.budget.BoundedError.{BoundedError}
pub use Rattle.checks.specs.declared.budget.Budget.{Budget}
pub use Rattle.checks.specs.declared.cell_checks.BrokenRow.{BrokenRow}
