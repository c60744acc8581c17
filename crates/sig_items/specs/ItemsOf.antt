-- The items of a signature (ECMA-335 II.23.2), in encoded order.
use Rattle.std.specs.Prelude.{ℕ, zero, suc, Bool, Option, Some, None, List, [], ◌∷◌, ◌++◌, length, map, flat_map}
use Rattle.sig_grammar.specs.declared.types.Modifier.{Modifier}
use Rattle.sig_grammar.specs.declared.body.Prefix.{Prefix}
use Rattle.sig_grammar.specs.declared.body.Prefix.TheVariants.{Mod, Pinned}
use Rattle.sig_grammar.specs.Conventions.{convention_of}
use Rattle.sig_grammar.specs.Grammar.{count_types, count_slots}
use Rattle.sig_grammar.specs.Syntax.{Core, simple, void_pointer, pointer, vector, array, class, value, var, mvar, instance, function, Typed, typed, Types, no_types, type_then, Content, typed_ref, plain, by_ref, Slot, slot, Slots, no_slots, slot_then, Ret, some_ret, void_ret, Method, method, ArrayShape, LocalVariable, local, Body, field, method_body, property, locals, instance_body, type_spec}
use Rattle.sig_items.specs.declared.item.Item.{Item}
use Rattle.sig_items.specs.declared.item.Item.TheVariants as item

-- CustomMod (II.23.2.7)
abbrev pub modifiers_items : List Modifier → List Item
modifiers_items modifiers = map item.Modifier modifiers

-- CustomMod or Constraint before a local variable (II.23.2.6, II.23.2.9)
abbrev pub prefix_item : Prefix → Item
prefix_item (Mod modifier) = item.Modifier modifier
prefix_item Pinned = item.Pinned

-- ArrayShape (II.23.2.13)
abbrev pub shape_items : ArrayShape → List Item
shape_items shape =
    item.Shape shape.rank (length shape.sizes) ∷ (map item.Size shape.sizes ++ item.LowBounds (length shape.low) ∷ map item.LowBound shape.low)

-- the head of a method (II.23.2.1 to II.23.2.3)
abbrev pub method_head : ℕ → Bool → Bool → Option ℕ → ℕ → Item
method_head kind this explicit generic params =
    item.Method (record { convention = convention_of kind; this = this; explicit = explicit; generic = generic; params = params })

abbrev mutual
  -- Type (II.23.2.12), without the modifiers before it
  pub core_items : Core → List Item
  core_items (simple element) = item.Simple element ∷ []
  core_items (void_pointer modifiers) = item.Pointer ∷ (modifiers_items modifiers ++ item.Void ∷ [])
  core_items (pointer modifiers to) = item.Pointer ∷ (modifiers_items modifiers ++ core_items to)
  core_items (vector of) = item.Vector ∷ typed_items of
  core_items (array of shape) = item.Array ∷ (typed_items of ++ shape_items shape)
  core_items (class of) = item.Class of ∷ []
  core_items (value of) = item.Value of ∷ []
  core_items (var n) = item.Var n ∷ []
  core_items (mvar n) = item.MVar n ∷ []
  core_items (instance is_value of args) = item.Instance is_value of (count_types args) ∷ types_items args
  core_items (function m) = item.Function ∷ method_items m

  pub typed_items : Typed → List Item
  typed_items (typed modifiers core) = modifiers_items modifiers ++ core_items core

  pub types_items : Types → List Item
  types_items no_types = []
  types_items (type_then t ts) = typed_items t ++ types_items ts

  -- Param (II.23.2.10), without the modifiers before it
  pub content_items : Content → List Item
  content_items typed_ref = item.TypedRef ∷ []
  content_items (plain core) = core_items core
  content_items (by_ref modifiers core) = item.ByRef ∷ (modifiers_items modifiers ++ core_items core)

  pub slot_items : Slot → List Item
  slot_items (slot modifiers content) = modifiers_items modifiers ++ content_items content

  -- the parameters, with SENTINEL after the given number of them
  pub slots_items : Slots → Option ℕ → List Item
  slots_items no_slots sentinel = []
  slots_items (slot_then s ss) None = slot_items s ++ slots_items ss None
  slots_items (slot_then s ss) (Some zero) = item.Sentinel ∷ (slot_items s ++ slots_items ss None)
  slots_items (slot_then s ss) (Some (suc before)) = slot_items s ++ slots_items ss (Some before)

  -- RetType (II.23.2.11)
  pub ret_items : Ret → List Item
  ret_items (some_ret s) = slot_items s
  ret_items (void_ret modifiers) = modifiers_items modifiers ++ item.Void ∷ []

  pub method_items : Method → List Item
  method_items (method kind this explicit generic ret params sentinel) =
      method_head kind this explicit generic (count_slots params) ∷ (ret_items ret ++ slots_items params sentinel)

-- one variable of LocalVarSig (II.23.2.6)
abbrev pub local_items : LocalVariable → List Item
local_items (local prefixes content) = map prefix_item prefixes ++ content_items content

-- the sections, in order: II.23.2.4, II.23.2.1 to II.23.2.3, II.23.2.5, II.23.2.6, II.23.2.15 and II.23.2.14
abbrev pub items_of : Body → List Item
items_of (field s) = item.Field ∷ slot_items s
items_of (method_body m) = method_items m
items_of (property this of params) = item.Property this (length params) ∷ (slot_items of ++ flat_map slot_items params)
items_of (locals variables) = item.Locals (length variables) ∷ flat_map local_items variables
items_of (instance_body args) = item.Arguments (length args) ∷ flat_map typed_items args
items_of (type_spec ret) = ret_items ret
