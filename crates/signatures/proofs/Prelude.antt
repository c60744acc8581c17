-- What several proofs of this crate name of std, of the crates below, and of its own definitions.
pub use Rattle.std.proofs.Common.{◌≡◌, ◌∙◌, ◌≢◌, ◌<◌, ◌&&◌, Bool, true, eqb, Some, map, length-append, Option, List, ℕ, refl, sym, ap, rules, subst, arith, ◌+◌, ◌*◌, ◌-◌, length, suc, ◌≤◌, false, None, Result, Ok, Err, [], ◌∷◌, ◌++◌, append_assoc, append-nil, IfSome, zero, ◌^◌, ◌/◌, ◌%◌, inl, inr, cond, ltb, ⊎_elim, drop, ap₂}
pub use Rattle.std.proofs.lemmas.Bool.{ne_eqb, lt-ltb, le-ltb, false_from_ne_true}
pub use Rattle.std.proofs.lemmas.Int.{ints, to_z-of_z}
pub use Rattle.std.proofs.lemmas.List.{map-append}
pub use Rattle.std.specs.List.{AllByRecursion}
pub use Rattle.std.specs.Option.{ok_or, option_or}
pub use Rattle.std.specs.Prelude.{option_map, option_and_then, is_none}
pub use Rattle.sig_grammar.proofs.Items.{Stepping, ShorterItem, leading_is, modifier_steps, prefix_steps}
pub use Rattle.sig_grammar.proofs.ViewLemmas.{view_simple, view_void_pointer, view_pointer, view_vector, view_array, view_instance, view_function, view_typed_ref, view_plain, view_by_ref, view_void_ret, view_some_ret}
pub use Rattle.sig_grammar.specs.Columns.{property_from}
unfoldable pub use Rattle.sig_grammar.specs.Columns.{body_at, headed_at, local_at}
pub use Rattle.sig_grammar.specs.Reading.{change, pointer_to, instance_from, is_method_code, head_is, Reader, deep, Optional, starts_modifier, starts_prefix}
unfoldable pub use Rattle.sig_grammar.specs.Reading.{both, void_or, core_at, core_by, typed_at, target_at, array_at, instance_at, named_at, counted_at, content_at, slot_at, ret_at, method_at, method_from, many_at, params_at, leading_within, leading_at, modifiers_at, element_of, modifier_at, prefix_at, prefixes_at, number_at, signed_at}
pub use Rattle.sig_grammar.specs.Views.{slots_from, local_of}
unfoldable pub use Rattle.sig_grammar.specs.Views.{type_of, slot_of, core_of, content_of, ret_of, method_of}
pub use Rattle.sig_grammar.specs.declared.types.Modifier.{Modifier}
pub use Rattle.sig_items.specs.ItemParts.{encoded_item, HasItemEncoding}
pub use Rattle.signatures.specs.Gives.{Fails, Gives}
pub use Rattle.signatures.specs.declared.error.SigError.{SigError}
pub use Rattle.signatures.specs.declared.error.SigError.TheVariants.{Bad, Memory}
