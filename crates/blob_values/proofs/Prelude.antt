-- What several proofs of this crate name of std, of the crates below, and of its own definitions.
pub use Rattle.std.proofs.Common.{◌≡◌, ◌∙◌, ℕ, ◌<◌, true, false, Option, Some, None, IfSome, List, [], ◌∷◌, ◌++◌, refl, sym, ap, subst, arith, ◌+◌, inl, inr, suc, ◌≤◌, length-append, length, zero, ◌^◌, Bool, cond, take, drop, get_or, append_assoc}
pub use Rattle.std.proofs.lemmas.Bool.{eqb-true}
pub use Rattle.std.proofs.lemmas.Bool.Decides.{nat_tests}
pub use Rattle.std.specs.Prelude.{◌==◌, nat_lt, option_map, option_and_then, IsSomeAnd, ⊤, ◌≢◌, flat_map}
pub use Rattle.packed.specs.Number.{IsNumber, little_endian}
pub use Rattle.packed.specs.Packed.{IsPacked}
pub use Rattle.sig_grammar.proofs.OptionLemmas.{IfSome-bind, IfSome-cond, IfSome-map}
pub use Rattle.sig_grammar.specs.Reading.{pick, Reader}
unfoldable pub use Rattle.sig_grammar.specs.Reading.{element_of}
pub use Rattle.sig_grammar.specs.declared.element.Element.{Element}
pub use Rattle.sig_grammar.specs.declared.element.Element.TheVariants.{Boolean, Char, I1, U1, I2, U2, I4, U4, I8, U8, R4, R8, String, I, U, Object}
pub use Rattle.blob_values.specs.Items.{entries_of, fixed_items, named_items, items_of, entry, named_count, Item, Head, element, array, fixed, named, head_of}
pub use Rattle.blob_values.specs.Parts.{Part, byte, sized, value, string, IsPart, AreParts, size_of, is_value, code_of, type_parts, scalar_part, element_parts, has_values, member_code, IsAttributeValue, argument_parts, named_parts, value_parts, null_count, IsArgument}
pub use Rattle.blob_values.specs.Reading.{checked_value, first_type, member_at, Intro, named_by, Reporter, item_then, count_of}
unfoldable pub use Rattle.blob_values.specs.Reading.{sized_at, string_at, bits_at, number_at, scalar_at, type_of, element_at, argument_type_at, member_of, intro_at, entries_at, named_left, head_at, after, argument_at, fixed_left}
pub use Rattle.blob_values.specs.Steps.{arguments_at, are_done, left_at, is_done, items_in, items_if_whole, ends, after_prolog}
unfoldable pub use Rattle.blob_values.specs.Steps.{all_at}
pub use Rattle.blob_values.specs.Values.{Scalar, number, text, type_name, Elem, plain, boxed, scalar_type, element_type, Argument, one, vector, Named, AttributeValue, argument_type}
pub use Rattle.blob_values.specs.declared.types.ArgumentType.{ArgumentType}
pub use Rattle.blob_values.specs.declared.types.ArgumentType.TheVariants.{One, Vector}
pub use Rattle.blob_values.specs.declared.types.ElementType.{ElementType}
