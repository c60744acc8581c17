-- What several proofs of this crate name of std, of the crates below, and of its own definitions.
pub use Rattle.std.proofs.Common.{◌≡◌, ◌≢◌, ◌⊎◌, inl, inr, ℕ, ◌%◌, ◌≤◌, Bool, true, false, is_some, List, refl, arith, ◌^◌, ◌<◌, Some, [], ◌∷◌, length, sym, ap, ◌∙◌, cond, eqb, ltb, ◌&&◌, Option, None, subst, IfSome, ◌++◌, zero, suc, ap₂, ◌+◌, length-append, ◌↔◌, leb, not, ◌*◌, ◌/◌, ◌||◌, drop, ⊎_elim, get_or, take}
pub use Rattle.std.proofs.lemmas.Bool.{eqb-true, eq-eqb, ne_eqb, not-true, eqb-false, and_parts, cases_Bool, ltb-true, leb-true, lt-ltb, le-leb, or_cases, ltb-false, le-ltb}
pub use Rattle.std.specs.List.{AllByRecursion, position_or_len}
pub use Rattle.std.specs.Prelude.{ℤ, flat_map, ⊤, slice_get, slice_index, option_map, option_and_then}
pub use Rattle.packed.specs.Packed.{IsPacked, IsPackedSigned, FitsBits, short_unsigned, short_signed}
pub use Rattle.table_schema.specs.CodedIndexes.{tables_of, IsCoded}
pub use Rattle.table_schema.specs.declared.coded.Coded.TheVariants.{TypeDefOrRef}
pub use Rattle.table_schema.specs.declared.column.SigKind.{SigKind}
pub use Rattle.table_schema.specs.declared.token.Token.{Token}
pub use Rattle.sig_grammar.proofs.FromLists.{count-types_from, parts-types_from, types_good, count-slots_from, slots_good}
pub use Rattle.sig_grammar.proofs.OptionLemmas.{IfSome-map, IfSome-cond, IfSome-bind}
pub use Rattle.sig_grammar.specs.Columns.{local_from, property_from, method_or, field_or, property_or}
unfoldable pub use Rattle.sig_grammar.specs.Columns.{local_at, body_at, headed_at}
pub use Rattle.sig_grammar.specs.ElementTypes.{element_code}
pub use Rattle.sig_grammar.specs.Encodes.{Holds, Encodes, IsEncodable, short, tokens, HasRow, has_row, first_bad}
pub use Rattle.sig_grammar.specs.Grammar.{core_parts, slot_parts, method_parts, method_code, local_parts, body_parts, content_parts, typed_parts, ret_parts, modifiers_parts, named_code, shape_parts, list_parts, modifier_parts, numbers_parts, bounds_parts, flag, generic_parts, types_parts, slots_parts, prefix_parts, prefixes_parts, count_slots}
pub use Rattle.sig_grammar.specs.Limits.{IsMethod, IsMethodKind, IsLocalWithin, IsBodyWithin, IsCoreWithin, IsTypedWithin, IsContentWithin, IsSlotWithin, IsRetWithin, core_depth, types_depth, content_depth, ret_depth, method_depth, IsCore, AreTypes, IsArrayShape, IsTyped, IsContent, IsSlot, AreSlots, IsRet, slots_depth, IsSentinel, HasOwnSentinel}
pub use Rattle.sig_grammar.specs.Parts.{Part, byte, number, signed, index, EncodesPart, EncodesParts, short_part, index_number, HasEncoding, is_table, part_tokens}
pub use Rattle.sig_grammar.specs.Reading.{Reader, fail, pick, change, behind, head_is, ret_from, deep, pointer_to, instance_from, shape_from, shape_with, array_from, core_or, Optional, items_then, modifier_after, prefix_of, takes_sentinel, is_method_code, split}
unfoldable pub use Rattle.sig_grammar.specs.Reading.{prefixes_at, slot_at, core_at, element_of, both, modifiers_at, typed_at, void_or, target_at, content_at, ret_at, number_at, signed_at, named_at, instance_at, counted_within, shape_at, array_at, method_at, core_by, leading_within, leading_at, index_at, modifier_at, prefix_at, params_at, generic_at, method_from, token_of, many_at, counted_at}
pub use Rattle.sig_grammar.specs.Syntax.{Core, Content, Method, method, Ret, LocalVariable, local, Body, field, method_body, property, locals, instance_body, type_spec, simple, typed_ref, plain, by_ref, Slot, slot, Typed, typed, some_ret, void_ret, void_pointer, pointer, vector, array, class, value, var, mvar, instance, function, Types, no_types, type_then, ArrayShape, Slots, no_slots, slot_then}
pub use Rattle.sig_grammar.specs.Views.{types_from, slots_from}
pub use Rattle.sig_grammar.specs.declared.body.Prefix.{Prefix}
pub use Rattle.sig_grammar.specs.declared.body.Prefix.TheVariants.{Mod, Pinned}
pub use Rattle.sig_grammar.specs.declared.element.Element.{Element}
pub use Rattle.sig_grammar.specs.declared.element.Element.TheVariants.{Boolean, Char, I1, U1, I2, U2, I4, U4, I8, U8, R4, R8, String, I, U, Object}
pub use Rattle.sig_grammar.specs.declared.types.Modifier.{Modifier}
