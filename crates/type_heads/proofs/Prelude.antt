-- What several proofs of this crate name of std, of the crates below, and of its own definitions.
pub use Rattle.std.proofs.Common.{◌≡◌, ◌∙◌, length, ℕ, suc, ◌+◌, ◌<◌, List, [], get_or, take, map, sym, ap, subst, arith, ◌≤◌, ◌==◌, Bool, true, false, ◌∷◌, ◌++◌, Option, Some, None, add-one, drop, drop-cons, refl, rules, codes, bit_and, All}
pub use Rattle.std.proofs.lemmas.List.{flat_map_more, length-map, drop_all, take_all}
pub use Rattle.std.specs.Fmt.{WritesInCalls}
pub use Rattle.table_schema.specs.CellColumns.{cell_count}
unfoldable pub use Rattle.table_schema.specs.CellColumns.{cell_columns}
pub use Rattle.table_schema.specs.declared.token.Token.{Token}
pub use Rattle.metadata.specs.Cell.{number_in, reference_in, text_in}
pub use Rattle.metadata.specs.Metadata.{Metadata, cell_in}
pub use Rattle.metadata.specs.Model.{IsModel}
pub use Rattle.navigation.specs.Keyed.{row_of}
pub use Rattle.navigation.specs.Linked.{table_of}
unfoldable pub use Rattle.navigation.specs.Linked.{linked}
pub use Rattle.navigation.specs.declared.keyed.KeyedRow.{KeyedRow}
pub use Rattle.navigation.specs.declared.links.Link.{Link}
pub use Rattle.full_names.proofs.PieceLemmas.{on_wrote}
pub use Rattle.full_names.proofs.TextLemmas.{writes_append, writes_nothing, writes_once, writes_last}
pub use Rattle.full_names.specs.Names.{Wrote}
pub use Rattle.type_heads.specs.FlagWords.{Word, leading_text, leading_words, shown_word, words_of}
pub use Rattle.type_heads.specs.Heads.{AreConstraints, AreListed, IsGenericParam, IsInHead, IsTypeName, IsTypeOf, enclosed, param_token}
pub use denote.Shadow.{shadow}
pub use denote.Text.{Utf8}
