-- What several proofs of this crate name of std, of the crates below, and of its own definitions.
pub use Rattle.std.proofs.Common.{◌≡◌, ◌∙◌, ℕ, Bool, true, false, List, [], ◌∷◌, ◌++◌, Option, None, Some, ⊎_elim, ap, inl, inr, refl, subst, sym, ◌<◌, ◌≤◌, get_or, length, arith, zero, suc, ◌+◌, ◌-◌, All, length-append, map, cond, append_assoc, append-nil, drop, ◌≢◌, codes, take, not, rules, IsPermutation, slice_get, unwrap_or, IsSome, string_bytes, slice_index_or}
pub use Rattle.std.proofs.lemmas.Bool.Decides.{nat_tests, Decides-at}
pub use Rattle.std.proofs.lemmas.Result.{IfOk-weaker}
pub use Rattle.std.proofs.lemmas.List.{drop_more, drop_all, take_all, take_min, map-append, map-id}
pub use Rattle.std.proofs.lemmas.List.Elements.{filter-append, All-push, All-append}
pub use Rattle.std.proofs.lemmas.List.Folds.{flat_map-map}
pub use Rattle.std.proofs.lemmas.List.Sorted.{All-permutation, IsPermutation-map, answers_always, ranks_by}
pub use Rattle.std.specs.List.{position, position_or_len, range_with_len, flat_map}
pub use Rattle.table_schema.specs.Tables.{table_index_of}
unfoldable pub use Rattle.table_schema.specs.Tables.{tables}
pub use Rattle.cli_outline.specs.Words.{TableId, TypeDef, Module, MethodSemantics, Token, token_at, Metadata, count_in, IsModel, member_of, owner_of, as_is, Part, style, Prints, Printed, Asked, Text, Letters, JsonLines, AreChosenBy, IsChosen, order_in, row_at, rows_of, IsRowIn, BelongsTo, IsMeantRef, IsWantedRef, Wants, is_shown, shown_rows, OutlineOptions, Tokens}
pub use Rattle.navigation.specs.declared.keyed.KeyedRow.{KeyedRow}
unfoldable pub use Rattle.cli_lines.specs.Lines.{line_from, styled_text}
pub use Rattle.cli_names.specs.declared.orders.TableOrder.{TableOrder}
pub use Rattle.cli_names.specs.declared.refs.Wanted.{Wanted}
pub use Rattle.cli_outline.specs.Declarations.{ends_word, json_line, text_line, unindented, has_directive}
unfoldable pub use Rattle.cli_outline.specs.Declarations.{declaration_line}
pub use Rattle.cli_outline.specs.Orders.{AreMembers, keyed_cmp, IsKeyed, key_limit, row_of_keyed, AreGrouped, grouping_of}
pub use Rattle.cli_outline.specs.Outline.{all_rows, members, refs_rows, row_of}
unfoldable pub use Rattle.cli_outline.specs.Outline.{each_from, own_rows, first_tables, last_tables, ref_tables, type_rows, outline_rows, class_rows}
pub use Rattle.cli_outline.specs.Printed.{PrintsRows, AreLines, IsLine}
pub use Rattle.cli_outline.specs.Subjects.{PrintsChosen}
pub use Rattle.cli_outline.specs.declared.orders.Keyed.{Keyed}
