-- What several proofs of this crate name of std, of the crates below, and of its own definitions.
pub use Rattle.std.proofs.Common.{◌≡◌, ◌∙◌, ◌≤◌, ◌<◌, ℕ, List, [], length, ap, refl, sym, zero, suc, ◌∷◌, get_or, arith, rules, ◌+◌, ◌++◌, OnOk, Result, Ok, Err, append_assoc, take, map, subst, string_bytes, ◌-◌, eqb, ltb, drop, append-nil, length-append, inl, inr, true, Bor, flat_map, IsOk, codes, decimal}
pub use Rattle.std.proofs.lemmas.Bool.{le-leb, lt-leb}
pub use Rattle.std.proofs.lemmas.Bool.Decides.{nat_tests}
pub use Rattle.std.proofs.lemmas.List.{flat_map_more, map_more, take_all}
pub use Rattle.std.specs.Fmt.{WritesInCalls}
unfoldable pub use Rattle.table_schema.specs.CellColumns.{cell_columns}
pub use Rattle.table_schema.specs.declared.column.ColumnKind.{ColumnKind}
pub use Rattle.cli_declarations.specs.Words.{TableId, CustomAttribute, Field, MethodDef, Property, Param, Token, Cell, number_in, HasRow, Metadata, cell_in, count_in, shown_word, words_text, token_text}
pub use Rattle.reading.specs.Shown.{Shows}
unfoldable pub use Rattle.opening.specs.Views.{row_count}
pub use Rattle.full_names.proofs.PieceLemmas.{method_in, property_in}
pub use Rattle.cli_declarations.specs.Parts.{IsPartText, text_limit, bytes_value, decoded_value, IsReferenceIn, IsReferred, has_reference, IsDeclarationAt, IsSignatureOf, address_text, layout_text, marshal_text, offset_text, referring_text, value_text}
unfoldable pub use Rattle.cli_declarations.specs.Parts.{cut_text}
pub use Rattle.cli_declarations.specs.Shown.{AreWithin, IsWithin, shown}
pub use Rattle.cli_declarations.specs.Texts.{AreTexts, Begins, Ends, Follows, Gains}
pub use Rattle.cli_declarations.specs.declared.declared.Declared.{Declared}
pub use Rattle.cli_declarations.specs.declared.layouts.Piece.{Piece}
