-- What several proofs of this crate name of std, of the crates below, and of its own definitions.
pub use Rattle.std.proofs.Common.{◌≡◌, ◌∙◌, ℕ, suc, List, [], ◌∷◌, ◌++◌, append_assoc, None, Some, length, map, refl, sym, ap, OnOk, Ok, Err, Result, subst, append-nil}
pub use Rattle.std.specs.Fmt.{WritesInCalls}
pub use Rattle.std.specs.Prelude.{codes, decimal, flat_map}
pub use Rattle.blob_values.specs.Items.{Item, entry, named_count, head_of, entries_of, fixed_items, named_items, items_of}
pub use Rattle.blob_values.specs.Values.{Elem, Argument, one, vector, Named, AttributeValue, argument_type, scalar_type}
pub use Rattle.blob_values.specs.Views.{head_view, scalar_view, view, element_view}
pub use Rattle.full_names.proofs.TextLemmas.{writes_append, writes_nothing, writes_once}
pub use Rattle.full_names.specs.Quoted.{quoted_bytes}
pub use Rattle.custom_attributes.specs.ItemTexts.{entries_in, head_text, head_type, end_if_none, item_text, entry_end}
unfoldable pub use Rattle.custom_attributes.specs.ItemTexts.{items_text}
pub use Rattle.custom_attributes.specs.Texts.{argument_text, entries_text, entry_text, fixed_text, intro_text, named_text, type_word, value_text, member_word, type_text, scalar_text, content_text}
