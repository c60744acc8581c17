-- What several proofs of this crate name of std, of the crates below, and of its own definitions.
pub use Rattle.std.proofs.Common.{ℕ, Bool, true, false, List, [], ◌∷◌, ◌++◌, refl, arith, ◌<◌, IsTrue, slice_index, take, ◌≡◌, ◌∙◌, ap, sym, subst, ◌≤◌, rules, w64}
pub use Rattle.std.proofs.lemmas.Bool.{cases_eq, cases_lt, and_from, and_parts, cases_Bool, or_cases, or_left, or_right}
pub use Rattle.std.proofs.lemmas.Grind.{flat_map-append, not_there}
pub use Rattle.std.proofs.lemmas.List.{drop_all, drop_more, take-append-drop, take_all, take_more}
pub use Rattle.std.specs.Fmt.{decimal, signed_decimal, WritesInCalls, digit_glyph}
pub use Rattle.std.specs.List.{All, flat_map, list_all, FoldsTo, concat}
pub use Rattle.std.specs.Prelude.{⊤, codes, is_ok}
pub use Rattle.std.specs.declared.fmt.Error.{Error}
pub use Rattle.table_schema.specs.CellColumns.{cell_count}
unfoldable pub use Rattle.table_schema.specs.CellColumns.{cell_columns}
pub use Rattle.table_schema.specs.declared.column.ColumnKind.{ColumnKind}
pub use Rattle.table_schema.specs.declared.table.TableId.{TableId}
pub use Rattle.table_schema.specs.declared.table.TableId.TheVariants.{TypeDef, TypeRef, TypeSpec, NestedClass, ModuleRef, AssemblyRef, Field, MethodDef, Event, Property, MemberRef, File, ExportedType, GenericParam}
pub use Rattle.table_schema.specs.declared.token.Token.{Token}
pub use Rattle.sig_grammar.specs.Encodes.{Encodes, Holds, IsEncodable, short}
pub use Rattle.sig_grammar.specs.Syntax.{Body, Method, Slot, method_body, property, Core, simple, void_pointer, pointer, vector, array, class, value, var, mvar, instance, function, Typed, typed, Types, no_types, type_then, Content, typed_ref, plain, by_ref, slot, Slots, no_slots, slot_then, Ret, some_ret, void_ret, method, ArrayShape, LocalVariable, local, field, locals, instance_body, type_spec}
pub use Rattle.sig_text.specs.SignatureText.{Piece, word, number, signed, name, method_name, generic_params, param_flags, param_name, text_of, listed, comma, following, modifier_text, modifiers_text, prefix_text, dimension_text, dimensions_text, mark_text, written_dimensions, rank_text, shape_text, flag_text, call_text, arity_text, sentinel_text, sentinel_after, core_text, typed_text, types_text, content_text, slot_text, slots_text, ret_text, method_text, local_text}
pub use Rattle.metadata.specs.Cell.{Cell, Text, Ref, Sig}
pub use Rattle.metadata.specs.Kinds.{IsOfKind, IsHeld}
pub use Rattle.metadata.specs.Lookups.{HasRow, IsKeyCell}
pub use Rattle.metadata.specs.Metadata.{Metadata, cell_in, count_in}
pub use Rattle.metadata.specs.Valid.{IsValid, MayRefer, kind_at, nullable_at}
pub use Rattle.navigation.specs.Nesting.{IsEnclosed, IsFirstNesting, IsNesting, IsScope, type_token}
pub use Rattle.full_names.specs.Names.{IsOuter, IsOwnText, IsTypeDefText, IsTypeRefText, Wrote}
unfoldable pub use Rattle.full_names.specs.Names.{IsChainText}
pub use Rattle.full_names.specs.Quoted.{type_text, EndsName, begins_identifier, holds_after, is_dotted_from, position_after, is_dotted, is_identifier, is_in_identifier, is_name_byte, is_of_kind, is_verbatim, is_word, quoted_byte, quoted_bytes}
unfoldable pub use Rattle.full_names.specs.Quoted.{name_text}
pub use Rattle.full_names.specs.RowNames.{IsMemberOf, IsNameIn, IsNameUnder, IsPlainName, IsRowNameBy}
pub use Rattle.full_names.specs.Scopes.{IsScopeIn, IsScopeText, IsScopeWithin, IsTypeRefName, IsTypeScope, in_brackets}
pub use Rattle.full_names.specs.Texts.{ArePiecesText, IsFullNameBy, IsInnerName, IsPieceText, IsTypeSpecText, IsMemberName}
pub use Rattle.full_names.specs.declared.limit.Scopes.{Scopes}
pub use Rattle.full_names.specs.declared.limit.Scopes.TheVariants.{Omitted, Written}
pub use Rattle.full_names.specs.declared.quoted.NameKind.TheVariants.{Identifier, Dotted, Member}
