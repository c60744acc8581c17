-- What several proofs of this crate name of std, of the crates below, and of its own definitions.
pub use Rattle.std.proofs.Common.{◌≡◌, ℕ, zero, suc, ◌-◌, ◌<◌, Some, None, List, [], ◌∷◌, refl, arith, ◌≢◌, ◌+◌, ◌%◌, ◌≤◌, subst, Bool, true, false, eqb, ◌++◌, length, Option, ap, inl, inr, ◌∙◌, if◌then◌else◌, is_some, ◌*◌, ◌/◌, drop, map, append_assoc, length-append, cond, ◌||◌, sym, append-nil, rules, w64, w32}
pub use Rattle.std.proofs.lemmas.Bool.{ne_eqb, lt-ltb}
pub use Rattle.std.proofs.lemmas.Int.{ints}
pub use Rattle.std.specs.Prelude.{option_map, codes}
pub use Rattle.sig_grammar.specs.Grammar.{list_parts, slot_parts, slots_parts, typed_parts, content_parts, local_parts, ret_parts, method_parts, body_parts, count_slots, modifier_parts, modifiers_parts, prefix_parts, prefixes_parts, numbers_parts, bounds_parts, shape_parts, generic_parts, method_code, flag, named_code, count_types, core_parts, types_parts}
pub use Rattle.sig_grammar.specs.Limits.{ret_depth, slots_depth, IsRet, AreSlots, IsMethodKind, IsTypedWithin, IsSlotWithin, IsLocalWithin, IsMethodWithin, IsBodyWithin, core_depth, typed_depth, types_depth, content_depth, slot_depth, method_depth, IsArrayShape, IsCore, IsTyped, AreTypes, IsContent, IsSlot, IsMethod}
pub use Rattle.sig_grammar.specs.Parts.{Part, number, byte, signed, index, EncodesPart, EncodesParts}
pub use Rattle.sig_grammar.specs.Reading.{starts_prefix, head_is, prefix_of, modifier_after}
unfoldable pub use Rattle.sig_grammar.specs.Reading.{element_of, number_at, signed_at, index_at, token_of, modifier_at, prefix_at}
pub use Rattle.sig_grammar.specs.Syntax.{Slot, Slots, no_slots, slot_then, Ret, some_ret, Method, method, LocalVariable, local, Typed, Body, field, method_body, property, locals, instance_body, type_spec, Core, simple, void_pointer, pointer, vector, array, class, value, var, mvar, instance, function, typed, Types, no_types, type_then, Content, typed_ref, plain, by_ref, slot, void_ret, ArrayShape}
pub use Rattle.sig_grammar.specs.declared.body.Prefix.{Prefix}
pub use Rattle.sig_grammar.specs.declared.body.Prefix.TheVariants.{Mod, Pinned}
pub use Rattle.sig_grammar.specs.declared.element.Element.{Element}
pub use Rattle.sig_text.specs.Shown.{Shown, CoreShown, byte_or, number_or, signed_or, index_or, marked, after_mark, before, is_marked, behind_mark}
unfoldable pub use Rattle.sig_text.specs.Shown.{code_shown, core_shown, listed_shown, enclosed_shown, property_shown, counted_shown, headed_shown, body_shown, named_slots_shown, declared_shown, member_shown, mark_at, marks_in, marks_of, numbers_behind, next_of, dimensions_shown, shape_shown, named_shown, parameter_shown, by_ref_shown, content_shown, slot_shown, instance_shown, generic_or, method_shown, after_element_shown, around_shown}
pub use Rattle.sig_text.specs.SignatureText.{word, Piece, comma, listed, slot_text, typed_text, content_text, local_text, method_text, text_of, named_slots_text, declared_text, flag_text, following, modifier_text, modifiers_text, prefix_text, dimensions_text, written_dimensions, shape_text, core_text, types_text, slots_text, ret_text, dimension_text, param_flags, param_name, method_name, generics_text, arity_text}
unfoldable pub use Rattle.sig_text.specs.SignatureText.{element_text}
