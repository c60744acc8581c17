-- What several proofs of this crate name of std, of the crates below, and of its own definitions.
pub use Rattle.std.proofs.Common.{◌≡◌, ℕ, ◌+◌, ◌<◌, ◌≤◌, List, [], ◌∷◌, ◌++◌, length, take, drop, get_or, zero, suc, ◌-◌, min, append_assoc, Bor, refl, sym, ◌∙◌, ap, ⊎_elim, arith, ◌^◌, true, subst, ◌*◌, ◌/◌, ◌%◌, set, replicate, unwrap_or, inl, inr, rules, IfNone, true≢false, false, cond, Bool, flat_map}
pub use Rattle.std.proofs.lemmas.Bool.{cases_lt, eq-eqb, ne_eqb}
pub use Rattle.std.specs.Fmt.{digit_glyph, digits_onto, WritesInCalls}
unfoldable pub use Rattle.std.specs.Fmt.{char_count, digits, padded_integral}
pub use Rattle.std.specs.Prelude.{codes}
pub use Rattle.std.proofs.lemmas.List.{append-nil, length-append, length-drop, take-append-drop, take_all, take_min, take_more, drop-drop, drop_all, drop_min, drop-append-le, drop-replicate, drop-set, length-replicate, length-set, set_split, take-replicate, take-set, take-take, get_or-take, get_or-drop, take_more_set, drop-set-lt, drop_at, length-take, length-take-le}
pub use Rattle.std.proofs.lemmas.Option.{slice_get-get_or, same_Some}
pub use Rattle.heap_entries.proofs.UserLemmas.{AreBytes, blob_bytes, encodes_from, encodes_odd, last_at}
pub use Rattle.heap_entries.specs.Entries.{IsBlob, IsUserString, UserText}
pub use Rattle.heap_entries.specs.Padding.{zero_padded}
pub use Rattle.heap_entries.specs.UserView.{units_in, last_of, user_text}
unfoldable pub use Rattle.table_schema.specs.CellColumns.{cell_columns}
pub use Rattle.table_schema.specs.Tokens.{hexadecimal, token_text}
pub use Rattle.table_schema.specs.declared.table.TableId.{TableId}
pub use Rattle.table_schema.specs.declared.table.TableId.TheVariants.{TypeDef, Field, MethodDef, Property}
pub use Rattle.sig_grammar.specs.Encodes.{Encodes}
pub use Rattle.sig_text.specs.SignatureText.{Piece}
pub use Rattle.metadata.specs.Lookups.{HasRow}
pub use Rattle.metadata.specs.Metadata.{cell_in}
pub use Rattle.full_names.proofs.PieceLemmas.{encoded_by, method_in, on_wrote, property_in, signature_of}
pub use Rattle.full_names.specs.declared.limit.Scopes.{Scopes}
pub use Rattle.declarations.specs.Declarations.{IsDeclarationBy, IsPropertyDeclarationBy}
pub use Rattle.c_texts.specs.RowTexts.{has_declaration, IsMethodDeclaration, IsDeclaredProperty}
pub use Rattle.c_texts.specs.SignatureTexts.{piece_bytes, signature_text}
pub use Rattle.c_texts.specs.Texts.{Extends, HasText, IsLenWithin, joined, overwritten, with_text, text_limit, counted}
