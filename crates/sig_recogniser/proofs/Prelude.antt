-- What several proofs of this crate name of std, of the crates below, and of its own definitions.
pub use Rattle.std.proofs.Common.{◌≡◌, ℕ, zero, suc, ◌+◌, ◌-◌, ◌<◌, ◌≤◌, ◌&&◌, Bool, false, not, cond, Option, Some, None, is_some, List, [], ◌∷◌, refl, arith, true, ◌++◌, ap, ◌∙◌, ◌/◌, ◌%◌, eqb, ltb, length, drop, sym, ◌≢◌, ◌*◌, ◌^◌, subst, length-drop, IfSome, get_or, rules}
pub use Rattle.std.proofs.lemmas.Grind.{flat_map-append}
pub use Rattle.std.specs.List.{flat_map}
pub use Rattle.std.specs.Prelude.{option_map, if◌then◌else◌, option_and_then, ℤ, unwrap_or}
pub use Rattle.table_schema.specs.declared.column.SigKind.{SigKind}
pub use Rattle.table_schema.specs.declared.token.Token.{Token}
pub use Rattle.sig_grammar.specs.Columns.{local_from, property_from, method_or, field_or, property_or}
unfoldable pub use Rattle.sig_grammar.specs.Columns.{local_at, headed_at, body_at}
pub use Rattle.sig_grammar.specs.Encodes.{has_row, first_bad, Encodes, tokens}
pub use Rattle.sig_grammar.specs.Grammar.{list_parts, modifier_parts, prefix_parts, modifiers_parts, prefixes_parts, numbers_parts, bounds_parts, shape_parts, core_parts, typed_parts, content_parts, slot_parts, slots_parts, ret_parts, method_parts, local_parts, body_parts, generic_parts, count_slots}
pub use Rattle.sig_grammar.specs.Parts.{Part, number, signed, index, part_tokens, byte}
pub use Rattle.sig_grammar.specs.Reading.{modifier_after, starts_modifier, prefix_of, starts_prefix, Optional, Reader, change, behind, fail, deep, pointer_to, instance_from, shape_with, shape_from, array_from, ret_from, takes_sentinel, is_method_code, core_or, head_is}
unfoldable pub use Rattle.sig_grammar.specs.Reading.{index_at, modifier_at, prefix_at, leading_at, modifiers_at, prefixes_at, leading_within, element_of, both, number_at, signed_at, many_at, counted_at, counted_within, typed_at, void_or, target_at, named_at, instance_at, shape_at, array_at, content_at, slot_at, ret_at, params_at, generic_at, method_from, method_at, core_by, core_at, token_of}
pub use Rattle.sig_grammar.specs.Syntax.{Core, vector, class, value, var, mvar, function, Typed, typed, Content, typed_ref, plain, by_ref, Slot, slot, Slots, no_slots, slot_then, Ret, Method, method, ArrayShape, field, method_body, locals, instance_body, type_spec, Body}
pub use Rattle.sig_grammar.specs.declared.types.Modifier.{Modifier}
pub use Rattle.sig_recogniser.specs.Skips.{Left, noted, passed, Skip, skip_deep, is_marked, behind_mark, with_bad, skip_bounds_twice, skip_generic, skip_behind, skip_nothing, offset_of, bad_of, token_kept, left}
unfoldable pub use Rattle.sig_recogniser.specs.Skips.{skip_index, skip_modifiers, skip_prefixes, skip_many, skip_core, skip_by, skip_params, skip_slot, skip_void_or, skip_ret, skip_method, skip_body, number_left, skip_number, skip_counted, skip_headed, skip_bounds, skip_shape, skip_typed, skip_target, skip_named, skip_instance, skip_content, skip_call, skip_local, remains, bad_token}
