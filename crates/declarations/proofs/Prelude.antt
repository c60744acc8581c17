-- What several proofs of this crate name of std, of the crates below, and of its own definitions.
pub use Rattle.std.proofs.Common.{ℕ, ◌≡◌, ◌<◌, List, [], ◌∷◌, ◌++◌, length, map, refl, arith, ◌≤◌, ◌⊎◌, inl, inr, Option, Some, None, ap, ◌∙◌, zero, suc, ◌+◌, Bool, cond, get_or, sym, subst, take, rules, w64, ◌-◌, ltb-false, ltb-true, filter, false, OnOk, Ok, Err, Result, ◌==◌, ◌↔◌, true, IfSome, MatchOption, slice_get, Contains, min, max}
pub use Rattle.std.proofs.Math.Logic.{∥∥₁_elim, ∥∥₁_map}
pub use Rattle.std.proofs.lemmas.Bool.{cases_Bool, cases_eq, eqb-true, eq-eqb, cases_lt, ne_eqb}
pub use Rattle.std.proofs.lemmas.List.Elements.{All-cons, All-contains, All-nil, All-filter, All-same, All-append}
pub use Rattle.std.specs.Fmt.{WritesInCalls, decimal, signed_decimal}
pub use Rattle.std.specs.Prelude.{codes, option_map, ⊤, All}
unfoldable pub use Rattle.table_schema.specs.CellColumns.{cell_columns}
pub use Rattle.table_schema.specs.declared.table.TableId.{TableId}
pub use Rattle.table_schema.specs.declared.table.TableId.TheVariants.{TypeDef, TypeRef, TypeSpec, MethodDef, MemberRef, ModuleRef, FieldMarshal, Param, Property}
pub use Rattle.table_schema.specs.declared.token.Token.{Token}
pub use Rattle.sig_grammar.specs.Encodes.{Encodes}
pub use Rattle.sig_grammar.specs.Syntax.{method_body, property}
pub use Rattle.sig_text.specs.Declares.{member_text, as_method}
pub use Rattle.metadata.specs.Cell.{Cell, Ref, Number, Text, number_in}
pub use Rattle.metadata.specs.Kinds.{IsOfKind}
pub use Rattle.metadata.specs.Lookups.{HasRow, HasKey, IsKeyCell}
pub use Rattle.metadata.specs.Metadata.{Metadata, cell_in, count_in}
pub use Rattle.metadata.specs.Valid.{IsValid, MayRefer, kind_at}
pub use Rattle.navigation.specs.Keyed.{row_of, has_key, keyed_row, keyed_rows}
pub use Rattle.navigation.specs.Linked.{first_linked, link_in, number_to}
unfoldable pub use Rattle.navigation.specs.Linked.{linked}
pub use Rattle.navigation.specs.declared.keyed.KeyedRow.{KeyedRow}
pub use Rattle.full_names.proofs.NameExists.{HasText, any_name, is_text}
pub use Rattle.full_names.proofs.PieceLemmas.{on_taken, ok_then, encoded_by, on_wrote, signature_of}
pub use Rattle.full_names.proofs.TextLemmas.{writes_append, writes_same, all_bytes, one_byte_more, other_bytes_passed, writes_nothing, writes_last}
pub use Rattle.full_names.specs.Names.{Wrote}
pub use Rattle.full_names.specs.Quoted.{quoted_bytes}
unfoldable pub use Rattle.full_names.specs.Quoted.{name_text}
pub use Rattle.full_names.specs.RowNames.{IsNameIn, IsParent, IsRowNameBy}
pub use Rattle.full_names.specs.Texts.{IsFullNameBy, ArePiecesText}
pub use Rattle.full_names.specs.declared.limit.Scopes.{Scopes}
pub use Rattle.full_names.specs.declared.quoted.NameKind.TheVariants.{Dotted, Member, Identifier}
pub use Rattle.type_heads.proofs.HeadLemmas.{generics_text, is_none, is_some}
pub use Rattle.type_heads.specs.FlagWords.{leading_words, words_of}
pub use Rattle.declarations.specs.Declarations.{IsClassUnder, IsGenerics, arity_text, param_token, IsDeclaredPiece, IsFlagsOf, IsMarshalOf, IsNameOf, IsParamAt, IsParamRow, IsParamText, after_space, before_space, marshal_by, position_in, spaced, AreParams, IsReference, IsReferenceBy, marshalled, AreLinksOf, generic_rows, IsDeclarationWith, IsPropertyDeclarationBy}
pub use Rattle.declarations.specs.Descriptors.{library_text, quoted_text, type_after, marshal_text, bytes_text, content_text, descriptor_in, variant_text}
pub use Rattle.declarations.specs.declared.method_text.Declared.{Declared}
