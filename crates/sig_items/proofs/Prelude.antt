-- What several proofs of this crate name of std, of the crates below, and of its own definitions.
pub use Rattle.std.proofs.Common.{◌≡◌, ◌∙◌, ℕ, zero, suc, ◌-◌, ◌<◌, ◌&&◌, Bool, true, false, cond, Option, Some, None, IfSome, List, [], ◌∷◌, ◌++◌, length, drop, append-nil, refl, sym, ap, arith, ℤ, ◌+◌, inl, inr, append_assoc, subst, ◌≤◌, is_some, length-append, ◌≢◌, rules, ◌/◌, ◌%◌, eqb}
pub use Rattle.std.proofs.lemmas.Bool.{ne_eqb}
pub use Rattle.std.specs.Prelude.{flat_map, option_map, option_and_then}
pub use Rattle.table_schema.specs.declared.column.SigKind.{SigKind}
pub use Rattle.sig_grammar.proofs.Items.{modifier_steps, prefix_steps, Stepping, leading_is}
pub use Rattle.sig_grammar.specs.Columns.{local_from, property_from}
unfoldable pub use Rattle.sig_grammar.specs.Columns.{local_at, headed_at, body_at}
pub use Rattle.sig_grammar.specs.Grammar.{count_slots, list_parts, modifiers_parts, prefixes_parts, numbers_parts, bounds_parts, shape_parts, generic_parts, method_code, named_code, flag, count_types, core_parts, typed_parts, types_parts, content_parts, slot_parts, slots_parts, ret_parts, method_parts, local_parts, body_parts}
pub use Rattle.sig_grammar.specs.Reading.{Reader, change, starts_modifier, starts_prefix, pointer_to, ret_from, array_from, instance_from, head_is, takes_sentinel, is_method_code, shape_with, Optional}
unfoldable pub use Rattle.sig_grammar.specs.Reading.{both, many_at, counted_at, number_at, index_at, modifier_at, modifiers_at, prefix_at, prefixes_at, void_or, named_at, typed_at, target_at, content_at, slot_at, ret_at, array_at, shape_at, instance_at, method_at, core_at, core_by, element_of, params_at, leading_within, leading_at, counted_within, signed_at, generic_at, method_from}
pub use Rattle.sig_grammar.specs.Syntax.{Core, Typed, Slot, simple, void_pointer, pointer, vector, array, class, value, var, mvar, instance, function, typed, Types, no_types, type_then, Content, typed_ref, plain, by_ref, slot, Slots, no_slots, slot_then, Ret, some_ret, void_ret, Method, method, ArrayShape, LocalVariable, local, Body, field, method_body, property, locals, instance_body, type_spec}
pub use Rattle.sig_grammar.specs.Views.{types_from, slots_from}
pub use Rattle.sig_grammar.specs.declared.body.Prefix.{Prefix}
pub use Rattle.sig_grammar.specs.declared.types.Modifier.{Modifier}
pub use Rattle.sig_items.specs.ItemsOf.{prefix_item, core_items, typed_items, content_items, slot_items, ret_items, local_items, shape_items, method_items, types_items, slots_items, method_head, items_of, modifiers_items}
pub use Rattle.sig_items.specs.Positions.{Reported, item_then, void_items, target_items, IsLed, Reporter, before_reported, and_report, next_at, params_items, bounds_items, low_items, position_depth, frame_depth}
unfoldable pub use Rattle.sig_items.specs.Positions.{joined, position_at, frame_at, core_reported, code_reported, instance_reported, content_reported, method_reported, types_reported, params_reported, locals_reported, field_reported, property_reported, variables_reported, arguments_reported, sizes_at, bounds_at, stack_at}
pub use Rattle.sig_items.specs.Steps.{reported_by, framed, pushed, items_in, HasRoom, IsStacked, IsRoomy, IsReady, reported}
unfoldable pub use Rattle.sig_items.specs.Steps.{all_at, items_left}
pub use Rattle.sig_items.specs.declared.item.Item.{Item}
pub use Rattle.sig_items.specs.declared.position.Frame.{Frame}
pub use Rattle.sig_items.specs.declared.position.Position.{Position}
