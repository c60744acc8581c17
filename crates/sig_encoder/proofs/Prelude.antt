-- What several proofs of this crate name of std, of the crates below, and of its own definitions.
pub use Rattle.std.proofs.Common.{◌≡◌, ◌∙◌, ℕ, Bool, Some, None, Result, Ok, Err, Vec, Global, List, [], ◌∷◌, ◌++◌, length, map, ap, sym, refl, zero, suc, ◌^◌, ◌<◌, ◌≤◌, true, false, ltb, Option, arith, ◌+◌, ◌-◌, get_or, drop, add-one, drop-cons, ⊎_elim, length-append, append_assoc, append-nil, inl, inr, eqb, lit<, rules, w32, to_z, of_z}
pub use Rattle.std.proofs.lemmas.Bool.{ltb-true, lt-ltb, le-ltb, eq-eqb, ne_eqb, cases_order, leb-true, leb-false, and_parts, and_from, le-leb, eqb-true, or_cases, or_left, or_right}
pub use Rattle.std.specs.List.{position_or_len, AllByRecursion}
pub use Rattle.std.specs.Prelude.{slice_get, flat_map, ⊤, IfSome, ◌||◌, ◌&&◌}
pub use Rattle.table_schema.specs.declared.token.Token.{Token}
pub use Rattle.sig_grammar.specs.Encodes.{IsEncodable, short}
pub use Rattle.sig_grammar.specs.Grammar.{modifiers_parts, generic_parts, method_code, count_slots, list_parts, count_types, body_parts, prefixes_parts, shape_parts, core_parts, typed_parts, types_parts, content_parts, slot_parts, slots_parts, ret_parts, method_parts, local_parts, modifier_parts, prefix_parts}
pub use Rattle.sig_grammar.specs.Limits.{IsBodyWithin, core_depth, types_depth, slots_depth, IsMethodKind, IsSentinel, IsArrayShape, AreTypes, AreSlots, IsCoreWithin, IsTypedWithin, IsContentWithin, IsSlotWithin, IsRetWithin, IsMethodWithin, IsLocalWithin}
pub use Rattle.sig_grammar.specs.Parts.{byte, number, index, is_table, index_number, Part, signed, short_part, HasEncoding}
pub use Rattle.sig_grammar.specs.Syntax.{Body}
pub use Rattle.sig_grammar.specs.Views.{types_from, slots_from, shape_of, local_of, body_of}
unfoldable pub use Rattle.sig_grammar.specs.Views.{core_of, type_of, content_of, slot_of, ret_of, method_of}
pub use Rattle.sig_grammar.specs.declared.types.TypeSig.{TypeSig, out-TypeSig}
pub use Rattle.sig_encoder.specs.Items.{Item, part, parts_items, is_call, core_items, first_items, typed_items, content_items, slot_items, slots_items, ret_items, method_items, leaf_items, types_items, param_items, stands_at, behind, local_items, locals_items, broken, kept, unbroken, body_items, is_method_kind, may_stand, is_shape, shape_items}
unfoldable pub use Rattle.sig_encoder.specs.Items.{rule}
pub use Rattle.sig_encoder.specs.Lengths.{has_tag, has_short}
unfoldable pub use Rattle.sig_encoder.specs.Lengths.{number_of, take_room, measurer_step}
pub use Rattle.sig_encoder.specs.Run.{then, after}
unfoldable pub use Rattle.sig_encoder.specs.Run.{run}
pub use Rattle.sig_encoder.specs.Written.{Written}
unfoldable pub use Rattle.sig_encoder.specs.Written.{put_short, writer_step}
